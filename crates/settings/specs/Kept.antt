-- How checked settings are kept.
use Rattle.std.specs.Prelude.{◌≡◌, map}
use Rattle.settings.specs.Checked.{configuration_in}
use Rattle.settings.specs.Configuration.{Configuration}
use Rattle.settings.specs.Well.{IsWell}
use Rattle.settings.specs.declared.settings.Settings.TheInside.{Inside}

abbrev pub configuration_of : Inside → Configuration
configuration_of s = configuration_in s.checked

-- the limits are kept, and the index has the destinations' point codes in their order
pub record IsKept (s : Inside) : Type 0 where
  pub well : IsWell (configuration_of s)
  pub indexed : s.checked.arrays.tables.points ≡ map (λ d. d.point) s.checked.arrays.tables.destinations.items
