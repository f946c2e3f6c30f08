-- The settings of a node as they are now, as a settings file of version 4. The translation rows are those that the node
-- has now, and points are texts in the format that is asked for.
use Rattle.std.specs.Prelude.{ℕ, Bool, true, false, nat_eq, if◌then◌else◌, List, [], ◌∷◌, ◌++◌, map, codes, decimal, length, slice_get}
use Rattle.std.specs.Prelude.{Option, None, Some}
use Rattle.std.specs.List.{list_any}
use Rattle.settings.specs.Configuration.{ChangeEntry, Configuration, DestinationEntry, LinkEntry, SetEntry, TitleEntry}
use Rattle.settings.specs.Points.{point_text}
use Rattle.settings.specs.declared.point.PointFormat.{PointFormat}
use Rattle.settings.specs.declared.title_row.TitleRoute.{TitleRoute}
use Rattle.settings.specs.declared.title_row.TitleRoute.TheVariants as route
use Rattle.exchange_rules.specs.State.{State}
use Rattle.console.specs.Names.{set_name_in}
use Rattle.console.specs.Texts.{digit_octet}
use Rattle.console.specs.TimerKeys.{KeyedTimer, keyed_timers}
use Rattle.console.specs.declared.settings_part.SettingsPart.{SettingsPart}
use Rattle.console.specs.declared.settings_part.SettingsPart.TheVariants as part
use Rattle.console.specs.declared.settings_part.TheConstants.{USER_INDICATORS}
use Rattle.console.specs.declared.timer_keys.TheConstants.{TIMERS}

-- ---- keys and their values

abbrev pub number_row : (key : List ℕ) → ℕ → List ℕ
number_row key value = key ++ codes " = " ++ decimal value ++ codes "\n"

abbrev pub text_row : (key text : List ℕ) → List ℕ
text_row key text = key ++ codes " = \"" ++ text ++ codes "\"\n"

abbrev pub point_row : PointFormat → (key : List ℕ) → (point : ℕ) → List ℕ
point_row points key point = text_row key (point_text points point)

abbrev pub flag_row : (key : List ℕ) → Bool → List ℕ
flag_row key true = key ++ codes " = true\n"
flag_row key false = key ++ codes " = false\n"

-- a key without a value is left out
abbrev pub given_row : (key : List ℕ) → Option ℕ → List ℕ
given_row key (Some value) = number_row key value
given_row key None = []

-- an element of a list has a line of its own
abbrev pub number_element : ℕ → List ℕ
number_element value = codes "    " ++ decimal value ++ codes ",\n"

abbrev pub text_element : List ℕ → List ℕ
text_element text = codes "    \"" ++ text ++ codes "\",\n"

-- ---- the node

-- what it does beside the rest
abbrev pub service_rows : Configuration → List ℕ
service_rows c =
    flag_row (codes "extended_unitdata") c.extended_unitdata
    ++ flag_row (codes "subsystem_tests") c.subsystem_tests
    ++ flag_row (codes "user_part_unavailable") c.user_part_unavailable
    ++ flag_row (codes "processor_outage") c.processor_outage
    ++ flag_row (codes "out_of_service") c.out_of_service
    ++ flag_row (codes "changeover_by_any_route") c.changeover_by_any_route

abbrev pub node_rows : PointFormat → Configuration → List ℕ
node_rows points c =
    codes "# This node's settings, without [serve] and the places of its links.\nversion = 4\n"
    ++ point_row points (codes "own") c.own ++ number_row (codes "network") c.network
    ++ number_row (codes "window") c.window ++ number_row (codes "pool") c.pool
    ++ service_rows c
    ++ codes "users = [\n"

-- a user part, if the node has it
abbrev pub user_row : Configuration → (service_indicator : Option ℕ) → List ℕ
user_row c (Some service_indicator) =
    if list_any (λ user. nat_eq user service_indicator) c.users then number_element service_indicator else []
user_row c None = []

abbrev pub subsystem_row : Option ℕ → List ℕ
subsystem_row (Some ssn) = number_element ssn
subsystem_row None = []

abbrev pub timer_row : Option KeyedTimer → List ℕ
timer_row (Some timer) = given_row timer.key timer.ticks
timer_row None = []

-- ---- its sets, links and destinations

abbrev pub set_rows : PointFormat → Option SetEntry → List ℕ
set_rows points (Some set) =
    codes "\n[[set]]\n" ++ text_row (codes "name") set.name
    ++ point_row points (codes "adjacent") set.adjacent
set_rows points None = []

abbrev pub link_rows : Configuration → Option LinkEntry → List ℕ
link_rows c (Some link) =
    codes "\n[[link]]\n" ++ text_row (codes "name") link.name ++ text_row (codes "set") (set_name_in c link.set)
    ++ number_row (codes "slc") link.slc ++ given_row (codes "share") link.share
link_rows c None = []

-- the names of some sets
abbrev pub set_elements : Configuration → List ℕ → List ℕ
set_elements c [] = []
set_elements c (set ∷ sets) = text_element (set_name_in c set) ++ set_elements c sets

abbrev pub destination_rows : PointFormat → Configuration → Option DestinationEntry → List ℕ
destination_rows points c (Some destination) =
    codes "\n[[destination]]\n" ++ point_row points (codes "point") destination.point
    ++ codes "sets = [\n" ++ set_elements c destination.sets ++ codes "]\n"
    ++ flag_row (codes "joined") destination.joined
destination_rows points c None = []

-- ---- its translation rows

abbrev pub backup_row : PointFormat → Option ℕ → List ℕ
backup_row points (Some point) = point_row points (codes "backup") point
backup_row points None = []

abbrev pub route_rows : TitleRoute → List ℕ
route_rows (route.Title ssn) = text_row (codes "route") (codes "title") ++ given_row (codes "ssn") ssn
route_rows (route.Ssn ssn) = text_row (codes "route") (codes "ssn") ++ number_row (codes "ssn") ssn

abbrev pub removed_row : ℕ → List ℕ
removed_row removed = if nat_eq removed 0 then [] else number_row (codes "remove") removed

abbrev pub added_row : List ℕ → List ℕ
added_row digits = if nat_eq (length digits) 0 then [] else text_row (codes "add") (map digit_octet digits)

abbrev pub change_rows : ChangeEntry → List ℕ
change_rows change =
    given_row (codes "new_plan") change.plan ++ given_row (codes "new_nature") change.nature
    ++ removed_row change.removed ++ added_row change.added

abbrev pub title_rows : PointFormat → Option TitleEntry → List ℕ
title_rows points (Some row) =
    codes "\n[[title]]\n" ++ number_row (codes "translation") row.translation ++ number_row (codes "plan") row.plan
    ++ number_row (codes "nature") row.nature ++ text_row (codes "digits") (map digit_octet row.digits)
    ++ point_row points (codes "point") row.point ++ backup_row points row.backup ++ route_rows row.route
    ++ change_rows row.change
title_rows points None = []

-- ---- the whole file, part by part

-- the rows of entry k of a part
abbrev pub rows_of : {Q : Type 0} → PointFormat → State Q → SettingsPart → ℕ → List ℕ
rows_of points s part.Node k = node_rows points s.settings
rows_of points s part.Users k = user_row s.settings (slice_get USER_INDICATORS.now k)
rows_of points s part.UsersEnd k = codes "]\nsubsystems = [\n"
rows_of points s part.Subsystems k = subsystem_row (slice_get s.settings.subsystems k)
rows_of points s part.SubsystemsEnd k = codes "]\n\n[timers]\n"
rows_of points s part.Timers k = timer_row (slice_get (keyed_timers s.settings.timers) k)
rows_of points s part.Sets k = set_rows points (slice_get s.settings.sets k)
rows_of points s part.Links k = link_rows s.settings (slice_get s.settings.links k)
rows_of points s part.Destinations k = destination_rows points s.settings (slice_get s.settings.destinations k)
rows_of points s part.Titles k = title_rows points (slice_get s.node.parts.titles.rows k)

-- how many entries it has
abbrev pub entries_of : {Q : Type 0} → State Q → SettingsPart → ℕ
entries_of s part.Node = 1
entries_of s part.Users = length USER_INDICATORS.now
entries_of s part.UsersEnd = 1
entries_of s part.Subsystems = length s.settings.subsystems
entries_of s part.SubsystemsEnd = 1
entries_of s part.Timers = TIMERS
entries_of s part.Sets = length s.settings.sets
entries_of s part.Links = length s.settings.links
entries_of s part.Destinations = length s.settings.destinations
entries_of s part.Titles = length s.node.parts.titles.rows
