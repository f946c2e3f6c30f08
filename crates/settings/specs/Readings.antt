-- What is read from checked settings.
use Rattle.std.specs.Prelude.{ℕ, Option, Some, None, option_and_then, position, nat_eq, slice_get, if◌then◌else◌, List}
use Rattle.std.specs.Str.{bytes_eq}
use Rattle.settings.specs.Configuration.{Configuration, SetEntry}

-- the number of the link of this name
abbrev pub link_place : Configuration → List ℕ → Option ℕ
link_place c name = position (λ l. bytes_eq l.name name) c.links

-- the number of the destination of this point code
abbrev pub destination_place : Configuration → ℕ → Option ℕ
destination_place c point = position (λ d. nat_eq point d.point) c.destinations

-- the number of the set that leads to this point over its own links
abbrev pub set_place : Configuration → ℕ → Option ℕ
set_place c point = position (λ s. nat_eq point s.adjacent) c.sets

-- the number of the first of these sets, if it leads to this point over its own links
abbrev pub first_to : List SetEntry → List ℕ → ℕ → Option ℕ
first_to sets ids point =
    option_and_then (λ first.
    option_and_then (λ s. if nat_eq point s.adjacent then Some first else None) (slice_get sets first))
    (slice_get ids 0)
