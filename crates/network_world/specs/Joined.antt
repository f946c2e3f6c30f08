-- The settings of the nodes of a network.
use Rattle.std.specs.Prelude.{◌≡◌, ℕ, Bool, true, ◌&&◌, not, nat_eq, List, [], ◌∷◌, find, slice_get, Option, Some, None}
use Rattle.std.specs.List.{list_any}
use Rattle.settings.specs.Configuration.{Configuration, LinkEntry}
use Rattle.settings.specs.Sharing.{SharesSet}
use Rattle.settings.specs.Well.{IsWell}
use Rattle.exchange_rules.specs.Routing.{adjacent_of}
use Rattle.pair_rules.specs.OneEndFirst.{settings_of}

-- the first settings for a point
abbrev pub settings_for : List Configuration → (point : ℕ) → Option Configuration
settings_for settings point = find (λ c. nat_eq c.own point) settings

-- a point without settings has a node without links
abbrev pub no_settings : (point : ℕ) → Configuration
no_settings point = record (settings_of point point) { sets = []; links = []; destinations = [] }

abbrev pub settings_or : (point : ℕ) → Option Configuration → Configuration
settings_or point (Some c) = c
settings_or point None = no_settings point

abbrev pub settings_at : List Configuration → (point : ℕ) → Configuration
settings_at settings point = settings_or point (settings_for settings point)

-- no two are for the same point
abbrev pub are_apart : List Configuration → Bool
are_apart [] = true
are_apart (c ∷ settings) = not (list_any (λ d. nat_eq d.own c.own) settings) && are_apart settings

-- a link leads to a node with which its own shares a set
abbrev pub IsJoinedBy : List Configuration → Configuration → LinkEntry → Type 0
IsJoinedBy settings c l = SharesSet c (settings_at settings (adjacent_of c l.set))

-- each link of a node does, and each link of all
abbrev pub IsJoined : List Configuration → Configuration → Type 0
IsJoined settings c = (link : ℕ) (l : LinkEntry) → slice_get c.links link ≡ Some l → IsJoinedBy settings c l

abbrev pub AreJoined : List Configuration → Type 0
AreJoined settings = (place : ℕ) (c : Configuration) → slice_get settings place ≡ Some c → IsJoined settings c

-- all are within every limit
abbrev pub AreWell : List Configuration → Type 0
AreWell settings = (place : ℕ) (c : Configuration) → slice_get settings place ≡ Some c → IsWell c
