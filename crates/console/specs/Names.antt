-- The names of links and sets, by their numbers.
use Rattle.std.specs.Prelude.{ℕ, List, [], slice_get, unwrap_or}
use Rattle.std.specs.Option.{option_map}
use Rattle.settings.specs.Configuration.{Configuration}

-- the name of a link; nothing if no link has this number
abbrev pub name_in : Configuration → ℕ → List ℕ
name_in c link = unwrap_or (option_map (λ row. row.name) (slice_get c.links link)) []

-- the name of a set; nothing if no set has this number
abbrev pub set_name_in : Configuration → ℕ → List ℕ
set_name_in c set = unwrap_or (option_map (λ row. row.name) (slice_get c.sets set)) []
