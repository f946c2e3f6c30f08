-- All faults of a settings file of version 4: those of reading, of each key its own, the keys in the order in which they
-- are read; behind them those of the settings that were read; and last those of the server's settings. A file of another
-- version has its first fault alone.
use Rattle.std.specs.Prelude.{◌≡◌, ◌⊎◌, ℕ, ◌+◌, true, false, List, [], ◌∷◌, ◌++◌, map, Option, Some, None, Result, Ok, Err}
use Rattle.std.specs.Result.{result_err}
use Rattle.toml.specs.Data.{Data, Members}
use Rattle.settings.specs.AllFaults.{all_faults}
use Rattle.settings.specs.declared.draft.Draft.{Draft}
use Rattle.settings.specs.declared.fault.DraftFault.{DraftFault}
use Rattle.settings.specs.declared.key.Key.{Key}
use Rattle.settings.specs.declared.key.Key.TheVariants as key
use Rattle.settings.specs.declared.key.TimerKey.{TimerKey}
use Rattle.settings.specs.declared.key.TimerKey.TheVariants.{L1, L2, L3, L4, L6, L7, T1, T2, T3, T4, T6, T8, T10}
use Rattle.settings.specs.declared.key.TimerKey.TheVariants.{Slt1, Slt2, L4e, Sst, T2Bar}
use Rattle.settings_file.specs.declared.fault.SettingsFault.{SettingsFault}
use Rattle.settings_file.specs.declared.fault.SettingsFault.TheVariants.{Kind}
use Rattle.settings_file.specs.declared.fault.SettingsFault.TheVariants as file
use Rattle.settings_file.specs.declared.faults.arrays.Array.{Array}
use Rattle.settings_file.specs.declared.faults.arrays.Array.TheVariants.{Sets, Links, Destinations, Titles}
use Rattle.settings_file.specs.declared.serve.fault.ServeFault.{ServeFault}
use Rattle.settings_file.specs.declared.serve.fault.ServeFault.TheVariants.{Settings}
use Rattle.settings_file.specs.Addresses.{Spelling}
use Rattle.settings_file.specs.AllServeFaults.{server_faults}
use Rattle.settings_file.specs.Mended.{or_else, mended}
use Rattle.settings_file.specs.Following.{standing}
use Rattle.settings_file.specs.Noted.{all_noted}
use Rattle.settings_file.specs.ToldFaults.{all_told}
use Rattle.settings_file.specs.KnownKeys.{has_fourth}
use Rattle.settings_file.specs.Written.{written}
use Rattle.settings_file.specs.NodeKeys.{found_at, integer_at, optional_integer_at, truth_at, text_at, optional_text_at}
use Rattle.settings_file.specs.NodeKeys.{point_at, optional_point_at, integers_if_any_at, name_at, names_at, entries_at}
use Rattle.settings_file.specs.Shapes.{table_in, array_in}
use Rattle.settings_file.specs.Entries.{ssn_at}
use Rattle.settings_file.specs.Ticks.{clock_of}
use Rattle.settings_file.specs.Timers.{optional_ticks_at, table_at}

-- the fault of what was read, if it has one
abbrev pub fault_in : {A : Type 0} → Result A SettingsFault → Option SettingsFault
fault_in read = result_err read

-- the numbers and lists that a file begins with
abbrev pub leading_checks : Members → List (Option SettingsFault)
leading_checks t =
    fault_in (point_at true key.Own t)
    ∷ fault_in (integer_at key.Network t)
    ∷ fault_in (integer_at key.Window t)
    ∷ fault_in (integer_at key.Pool t)
    ∷ fault_in (integers_if_any_at true key.Users t)
    ∷ fault_in (integers_if_any_at true key.Subsystems t)
    ∷ []

-- what a file asks for
abbrev pub service_checks : Members → List (Option SettingsFault)
service_checks t =
    fault_in (truth_at true key.ExtendedUnitdata t)
    ∷ fault_in (truth_at true key.SubsystemTests t)
    ∷ fault_in (truth_at true key.UserPartUnavailable t)
    ∷ fault_in (truth_at true key.ProcessorOutage t)
    ∷ fault_in (truth_at true key.OutOfService t)
    ∷ fault_in (truth_at true key.ChangeoverByAnyRoute t)
    ∷ []

-- the timers, in their order
abbrev pub timer_keys : List TimerKey
timer_keys =
    L1 ∷ L2 ∷ L3 ∷ L4 ∷ L6 ∷ L7 ∷ T1 ∷ T2 ∷ T3 ∷ T4 ∷ T6 ∷ T8 ∷ T10 ∷ Slt1 ∷ Slt2 ∷ L4e ∷ Sst ∷ T2Bar ∷ []

-- timers, each of which may be left out
abbrev pub each_timer : (clock : Option ℕ) → Option Members → List TimerKey → List (Option SettingsFault)
each_timer clock t [] = []
each_timer clock t (timer ∷ rest) = fault_in (optional_ticks_at true clock timer t) ∷ each_timer clock t rest

-- the table of timers, or each of them
abbrev pub timers_checks_in : (clock : Option ℕ) → Result (Option Members) SettingsFault → List (Option SettingsFault)
timers_checks_in clock (Err fault) = Some fault ∷ []
timers_checks_in clock (Ok t) = each_timer clock t timer_keys

unfoldable pub timers_checks : Members → List (Option SettingsFault)
timers_checks t = timers_checks_in (clock_of true t) (table_at (clock_of true t) t)

-- an entry that is a table, or isn't
abbrev pub entry_checks : (Members → List (Option SettingsFault)) → Result Members SettingsFault → List (Option SettingsFault)
entry_checks checks (Ok t) = checks t
entry_checks checks (Err fault) = Some fault ∷ []

-- a link set
abbrev pub set_checks : ℕ → Members → List (Option SettingsFault)
set_checks i t = fault_in (name_at true (key.SetName i) t) ∷ fault_in (point_at true (key.SetAdjacent i) t) ∷ []

unfoldable pub set_checks_in : ℕ → Data → List (Option SettingsFault)
set_checks_in i d = entry_checks (set_checks i) (table_in (Kind (key.SetEntry i)) d)

-- a link
abbrev pub link_checks : ℕ → Members → List (Option SettingsFault)
link_checks i t =
    fault_in (name_at true (key.LinkName i) t)
    ∷ fault_in (name_at true (key.LinkSet i) t)
    ∷ fault_in (integer_at (key.LinkSlc i) t)
    ∷ fault_in (optional_integer_at true (key.LinkShare i) t)
    ∷ []

unfoldable pub link_checks_in : ℕ → Data → List (Option SettingsFault)
link_checks_in i d = entry_checks (link_checks i) (table_in (Kind (key.LinkEntry i)) d)

-- a destination
abbrev pub destination_checks : ℕ → Members → List (Option SettingsFault)
destination_checks i t =
    fault_in (point_at true (key.DestinationPoint i) t)
    ∷ fault_in (names_at true (key.DestinationSets i) t)
    ∷ fault_in (truth_at true (key.DestinationJoined i) t)
    ∷ []

unfoldable pub destination_checks_in : ℕ → Data → List (Option SettingsFault)
destination_checks_in i d = entry_checks (destination_checks i) (table_in (Kind (key.DestinationEntry i)) d)

-- the key and the digits of a translation row, and how it changes titles
abbrev pub title_key_checks : ℕ → Members → List (Option SettingsFault)
title_key_checks i t =
    fault_in (integer_at (key.TitleTranslation i) t)
    ∷ fault_in (integer_at (key.TitlePlan i) t)
    ∷ fault_in (integer_at (key.TitleNature i) t)
    ∷ fault_in (text_at (key.TitleDigits i) t)
    ∷ []

-- where a translation row leads to. Where its route can't be read, it asks for no subsystem number
abbrev pub title_target_checks : ℕ → Members → List (Option SettingsFault)
title_target_checks i t =
    fault_in (point_at true (key.TitlePoint i) t)
    ∷ fault_in (optional_point_at true true (key.TitleBackup i) t)
    ∷ fault_in (text_at (key.TitleRoute i) t)
    ∷ fault_in (ssn_at i (or_else [] (text_at (key.TitleRoute i) t)) t)
    ∷ []

-- how a translation row changes titles
abbrev pub title_change_checks : ℕ → Members → List (Option SettingsFault)
title_change_checks i t =
    fault_in (optional_integer_at true (key.TitleNewPlan i) t)
    ∷ fault_in (optional_integer_at true (key.TitleNewNature i) t)
    ∷ fault_in (optional_integer_at true (key.TitleRemove i) t)
    ∷ fault_in (optional_text_at true (key.TitleAdd i) t)
    ∷ []

-- a translation row
abbrev pub title_checks : ℕ → Members → List (Option SettingsFault)
title_checks i t = title_key_checks i t ++ (title_target_checks i t ++ title_change_checks i t)

unfoldable pub title_checks_in : ℕ → Data → List (Option SettingsFault)
title_checks_in i d = entry_checks (title_checks i) (table_in (Kind (key.TitleEntry i)) d)

-- an entry of an array
abbrev pub entry_checks_of : Array → ℕ → Data → List (Option SettingsFault)
entry_checks_of Sets = set_checks_in
entry_checks_of Links = link_checks_in
entry_checks_of Destinations = destination_checks_in
entry_checks_of Titles = title_checks_in

abbrev pub array_key : Array → Key
array_key Sets = key.Set
array_key Links = key.Link
array_key Destinations = key.Destination
array_key Titles = key.Title

-- the entries of an array, from number i on
abbrev pub each_check : (ℕ → Data → List (Option SettingsFault)) → ℕ → List Data → List (Option SettingsFault)
each_check checks i [] = []
each_check checks i (d ∷ rest) = checks i d ++ each_check checks (i + 1) rest

-- an array that there is, or isn't
abbrev pub array_checks : (ℕ → Data → List (Option SettingsFault)) → Result (List Data) SettingsFault → List (Option SettingsFault)
array_checks checks (Ok entries) = each_check checks 0 entries
array_checks checks (Err fault) = Some fault ∷ []

-- the translation rows, which may be left out
abbrev pub titles_checks_in : Option Data → List (Option SettingsFault)
titles_checks_in None = []
titles_checks_in (Some d) = array_checks (entry_checks_of Titles) (array_in (Kind key.Title) d)

unfoldable pub arrays_checks : Members → List (Option SettingsFault)
arrays_checks t =
    array_checks (entry_checks_of Sets) (entries_at (array_key Sets) t)
    ++ (array_checks (entry_checks_of Links) (entries_at (array_key Links) t)
    ++ (array_checks (entry_checks_of Destinations) (entries_at (array_key Destinations) t)
    ++ titles_checks_in (found_at key.Title t)))

-- all checks of reading a document of version 4
unfoldable pub reading_checks : Members → List (Option SettingsFault)
reading_checks t = leading_checks t ++ (service_checks t ++ (timers_checks t ++ arrays_checks t))

-- the faults of reading
unfoldable pub reading_faults : Members → List SettingsFault
reading_faults t = all_noted [] (reading_checks t)

-- faults of the node's settings, among those of a file
abbrev pub checked_fault : DraftFault → ServeFault
checked_fault found = Settings (file.Draft found)

-- the first fault; behind it those of reading, those of the settings that were read, but for those that only follow, and
-- those of the server's settings
abbrev pub told_faults : (first : ServeFault) → (reading : List SettingsFault) → (checked : List DraftFault)
    → (server : List ServeFault) → List ServeFault
told_faults first reading checked server =
    all_told (first ∷ []) (map Settings reading ++ (map checked_fault (standing reading checked) ++ server))

-- these are all faults of a document of version 4, which is read with this one: those of reading it, those of the
-- settings that it says, where a value that can't be read counts as a malformed one, and those of its server
pub record AreOfFourth (t : Members) (first : ServeFault) (faults : List ServeFault) : Type 0 where
  pub draft : Draft
  pub says : written draft ≡ mended t
  pub found : (s : Spelling) → faults ≡ told_faults first (reading_faults t) (all_faults draft) (server_faults s t)

-- all faults of a document, whose first is this one
abbrev pub AreAllFaults : Members → (first : ServeFault) → List ServeFault → Type 0
AreAllFaults t first faults =
    ((has_fourth t ≡ false) × (faults ≡ first ∷ []))
    ⊎ ((has_fourth t ≡ true) × AreOfFourth t first faults)
