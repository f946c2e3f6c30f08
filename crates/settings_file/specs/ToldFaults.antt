-- Faults of a file as they are told: of each key its first one, and 100 at most.
use Rattle.std.specs.Prelude.{◌&&◌, ◌||◌, not, Bool, true, false, List, [], ◌∷◌, ◌++◌, length, nat_eq, nat_lt, bytes_eq, Option, Some, None}
use Rattle.std.specs.Prelude.{if◌then◌else◌}
use Rattle.std.specs.List.{list_any}
use Rattle.std.specs.Option.{option_eq}
use Rattle.settings_file.specs.Places.{KeyPlace, name_at}
use Rattle.settings_file.specs.ServeSentences.{place_of}
use Rattle.settings_file.specs.declared.faults.telling.TheConstants.{MOST_FAULTS}
use Rattle.settings_file.specs.declared.serve.fault.ServeFault.{ServeFault}

-- a key is this one, or the entry of an array that this one is in
abbrev pub is_there : KeyPlace → (found : KeyPlace) → Bool
is_there place found =
    bytes_eq found.front place.front && option_eq nat_eq found.entry place.entry
    && (bytes_eq (name_at found) [] || bytes_eq (name_at found) (name_at place))

abbrev pub is_there_if_any : KeyPlace → Option KeyPlace → Bool
is_there_if_any place None = false
is_there_if_any place (Some found) = is_there place found

-- a fault is at this key, or at the entry of an array that the key is in
abbrev pub is_at : KeyPlace → ServeFault → Bool
is_at place fault = is_there_if_any place (place_of fault)

-- one of these faults is at this one's key, or at the entry of an array that the key is in
abbrev pub is_told_at : List ServeFault → Option KeyPlace → Bool
is_told_at told None = false
is_told_at told (Some place) = list_any (is_at place) told

abbrev pub is_told : List ServeFault → ServeFault → Bool
is_told told fault = is_told_at told (place_of fault)

-- a fault behind those that were told before
abbrev pub told_with : List ServeFault → ServeFault → List ServeFault
told_with told fault = if nat_lt (length told) MOST_FAULTS && not (is_told told fault) then told ++ fault ∷ [] else told

abbrev pub told_if : Bool → List ServeFault → ServeFault → List ServeFault
told_if true told fault = told_with told fault
told_if false told fault = told

-- several, one after another
abbrev pub all_told : List ServeFault → List ServeFault → List ServeFault
all_told told [] = told
all_told told (fault ∷ rest) = all_told (told_with told fault) rest
