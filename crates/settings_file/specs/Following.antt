-- Faults of settings that only follow from others of their file, and those that stand.
use Rattle.std.specs.Prelude.{◌&&◌, ◌||◌, not, Bool, false, List, filter, bytes_eq, codes, Option, Some, None}
use Rattle.std.specs.Prelude.{if◌then◌else◌}
use Rattle.std.specs.List.{list_any}
use Rattle.settings.specs.Keys.{key_front}
use Rattle.settings.specs.declared.key.Key.{Key}
use Rattle.settings.specs.declared.fault.DraftFault.{DraftFault}
use Rattle.settings.specs.declared.fault.DraftFault.TheVariants.{NoMemory, At}
use Rattle.settings.specs.declared.fault.FaultKind.{FaultKind}
use Rattle.settings.specs.declared.fault.FaultKind.TheVariants.{Range, Duplicate, UnknownName, TooMany}
use Rattle.settings_file.specs.Places.{key_name}
use Rattle.settings_file.specs.Sentences.{key_of}
use Rattle.settings_file.specs.declared.fault.SettingsFault.{SettingsFault}
use Rattle.settings_file.specs.declared.fault.SettingsFault.TheVariants as file

-- a fault at this key leaves open which names sets have: it is at the array of sets, at a set, or at the name of one
abbrev pub is_hiding_names : Key → Bool
is_hiding_names key = bytes_eq (key_front key) (codes "set") && not (bytes_eq (key_name key) (codes "adjacent"))

-- a fault at this key leaves open which sets lead to destinations
abbrev pub is_hiding_routes : Key → Bool
is_hiding_routes key = bytes_eq (key_front key) (codes "set") || bytes_eq (key_front key) (codes "destination")

abbrev pub is_if_any : (Key → Bool) → Option Key → Bool
is_if_any test None = false
is_if_any test (Some key) = test key

abbrev pub hides_names : SettingsFault → Bool
hides_names fault = is_if_any is_hiding_names (key_of fault)

abbrev pub check_hides_names : DraftFault → Bool
check_hides_names fault = hides_names (file.Draft fault)

abbrev pub hides_routes : SettingsFault → Bool
hides_routes fault = is_if_any is_hiding_routes (key_of fault)

-- a fault at this key may be one only because names or routes are left open: no set is known by a name; or no destination
-- is known that a set leads to first
abbrev pub is_hidden_at : (names routes : Bool) → FaultKind → Key → Bool
is_hidden_at names routes Range key = false
is_hidden_at names routes Duplicate key = false
is_hidden_at names routes UnknownName key = if bytes_eq (key_name key) (codes "adjacent") then routes else names
is_hidden_at names routes TooMany key = false

abbrev pub is_hidden : (names routes : Bool) → DraftFault → Bool
is_hidden names routes NoMemory = false
is_hidden names routes (At kind key) = is_hidden_at names routes kind key

abbrev pub stands : (names routes : Bool) → DraftFault → Bool
stands names routes fault = not (is_hidden names routes fault)

-- the faults of checking that don't only follow from others: no set is missed by its name while names of sets have
-- faults; and no destination is missed while sets or destinations can't be read
unfoldable pub standing : (reading : List SettingsFault) → (checked : List DraftFault) → List DraftFault
standing reading checked =
    filter
    (stands (list_any hides_names reading || list_any check_hides_names checked) (list_any hides_routes reading))
    checked
