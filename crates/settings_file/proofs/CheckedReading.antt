-- Reading a document of version 4 is what its checks find.
use Rattle.settings_file.proofs.Basics.{◌≡◌, ◌∙◌, ℕ, Bool, ◌+◌, List, [], ◌∷◌, ◌++◌, Option, Some, None, Result, Ok, Err, refl, sym, ap, codes, and_then, each, SettingsFault}
use Rattle.std.specs.Prelude.{ℤ, pos, true, false, ◌||◌, is_some, unwrap_or, if◌then◌else◌}
use Rattle.std.specs.Option.{ok_or, option_map, option_flatten}
use Rattle.std.proofs.lemmas.Bool.Decides.{Decides-int_eq}
use Rattle.std.specs.Ordering.{int_eq}
use Rattle.toml.specs.Data.{Data, Members, no_members, as_table, as_integer, get_member}
use Rattle.settings.specs.declared.key.Key.{Key}
use Rattle.settings.specs.declared.key.Key.TheVariants as key
use Rattle.settings.specs.declared.key.TimerKey.{TimerKey}
use Rattle.settings.specs.declared.key.TimerKey.TheVariants.{L1, L2, L3, L4, L6, L7, T1, T2, T3, T4, T6, T8, T10}
use Rattle.settings.specs.declared.key.TimerKey.TheVariants.{Slt1, Slt2, L4e, Sst, T2Bar}
use Rattle.settings_file.specs.declared.document.Numbers.{Numbers}
use Rattle.settings_file.specs.declared.document.Services.{Services}
use Rattle.settings_file.specs.declared.fault.SettingsFault.TheVariants.{Missing, Kind}
use Rattle.settings_file.specs.AllFaults.{fault_in, leading_checks, service_checks, timer_keys, each_timer, timers_checks_in, entry_checks, set_checks, link_checks, destination_checks, title_checks, title_change_checks, each_check, array_checks, titles_checks_in}
unfoldable use Rattle.settings_file.specs.AllFaults.{timers_checks, set_checks_in, link_checks_in, destination_checks_in, title_checks_in, arrays_checks, reading_checks}
unfoldable use Rattle.settings_file.specs.Document.{numbers_at, services_at, document}
unfoldable use Rattle.settings_file.specs.Entries.{set_in, link_entry_in, destination_in, title_in, change_at, sets_at, links_at, destinations_at, titles_at}
use Rattle.settings_file.specs.Entries.{ssn_at, titles_in}
use Rattle.settings_file.specs.FirstOfAll.{checked_by, document_mended}
use Rattle.settings_file.specs.KnownKeys.{has_fourth, version_of, has_since}
use Rattle.settings_file.specs.declared.versions.Since.TheVariants.{Fourth}
use Rattle.settings_file.specs.Mended.{or_else, unread, members_in, entries_if_any, entries_mended, each_mended, ticks_mended, link_tests_mended}
unfoldable use Rattle.settings_file.specs.Mended.{set_mended, link_mended, destination_mended, change_mended, title_mended, timers_mended_in, timers_mended, mended}
unfoldable use Rattle.settings_file.specs.NodeKeys.{entries_at, integer_at}
use Rattle.settings_file.specs.NodeKeys.{some_in, found_at, point_at, integers_if_any_at, truth_at, name_at, names_at, text_at, optional_text_at, optional_integer_at, optional_point_at}
unfoldable use Rattle.settings_file.specs.Places.{key_name}
unfoldable use Rattle.settings_file.specs.Reading.{reading_in}
use Rattle.settings_file.specs.Reading.{of_known_version}
unfoldable use Rattle.settings_file.specs.Shapes.{table_in, value_at, integer_in}
use Rattle.settings_file.specs.Shapes.{array_in}
use Rattle.settings_file.specs.Ticks.{tick_of}
use Rattle.settings_file.specs.Timers.{usual_times, timer_found, ticks_of, ticks_in, ticks_if_any, has_timer, table_at}
unfoldable use Rattle.settings_file.specs.Timers.{ticks_at, optional_ticks_at, link_tests_at, timers_in, timers_at}

-- ---- one value after another

-- a value that is read, and then the others
one : {A B : Type 0} (other : A) (read : Result A SettingsFault) (next : A → Result B SettingsFault) (rest : List (Option SettingsFault)) (value : B)
    → next (or_else other read) ≡ checked_by rest value → and_then read next ≡ checked_by (fault_in read ∷ rest) value
one other (Ok a) next rest value h = h
one other (Err fault) next rest value h = refl

checked-then : {A B : Type 0} (checks : List (Option SettingsFault)) (a : A) (next : A → Result B SettingsFault) (rest : List (Option SettingsFault)) (value : B)
    → next a ≡ checked_by rest value → and_then (checked_by checks a) next ≡ checked_by (checks ++ rest) value
checked-then [] a next rest value h = h
checked-then (None ∷ checks) a next rest value h = checked-then checks a next rest value h
checked-then (Some fault ∷ checks) a next rest value h = refl

-- values that are read together, and then the others
several : {A B : Type 0} (checks : List (Option SettingsFault)) (a : A) (read : Result A SettingsFault) (next : A → Result B SettingsFault) (rest : List (Option SettingsFault)) (value : B)
    → read ≡ checked_by checks a → next a ≡ checked_by rest value → and_then read next ≡ checked_by (checks ++ rest) value
several checks a read next rest value e h = rw e (checked-then checks a next rest value h)

-- values that are read last, of which one is made
last-checked : {A B : Type 0} (checks : List (Option SettingsFault)) (a : A) (f : A → B) → and_then (checked_by checks a) (λ x. Ok (f x)) ≡ checked_by checks (f a)
last-checked [] a f = refl
last-checked (None ∷ checks) a f = last-checked checks a f
last-checked (Some fault ∷ checks) a f = refl

last : {A B : Type 0} (checks : List (Option SettingsFault)) (a : A) (read : Result A SettingsFault) (f : A → B) → read ≡ checked_by checks a → and_then read (λ x. Ok (f x)) ≡ checked_by checks (f a)
last checks a read f e = rw e (last-checked checks a f)

-- ---- entries of arrays

-- what an entry is read as, if it is what its checks find of its table
entry : {A : Type 0} (kind : SettingsFault) (read : Members → Result A SettingsFault) (checks : Members → List (Option SettingsFault)) (mend : Members → A) (d : Data)
    → ((t : Members) → read t ≡ checked_by (checks t) (mend t)) → and_then (table_in kind d) read ≡ checked_by (entry_checks checks (table_in kind d)) (mend (members_in d))
unfolding table_in
entry {A} kind read checks mend d h = by (as_table d)
  where
    by : (table : Option Members) → and_then (ok_or table kind) read ≡ checked_by (entry_checks checks (ok_or table kind)) (mend (unwrap_or table no_members))
    by (Some t) = h t
    by None = refl

set-read : (i : ℕ) (d : Data) → set_in true i d ≡ checked_by (set_checks_in i d) (set_mended i (members_in d))
unfolding set_in set_checks_in set_mended
set-read i d = entry (Kind (key.SetEntry i)) _ (set_checks i) (set_mended i) d (λ t.
    one [] (name_at true (key.SetName i) t) _ _ _ (
    one unread (point_at true (key.SetAdjacent i) t) _ _ _ refl))

link-read : (i : ℕ) (d : Data) → link_entry_in true true i d ≡ checked_by (link_checks_in i d) (link_mended i (members_in d))
unfolding link_entry_in link_checks_in link_mended
link-read i d = entry (Kind (key.LinkEntry i)) _ (link_checks i) (link_mended i) d (λ t.
    one [] (name_at true (key.LinkName i) t) _ _ _ (
    one [] (name_at true (key.LinkSet i) t) _ _ _ (
    one unread (integer_at (key.LinkSlc i) t) _ _ _ (
    one None (optional_integer_at true (key.LinkShare i) t) _ _ _ refl))))

destination-read : (i : ℕ) (d : Data) → destination_in true true i d ≡ checked_by (destination_checks_in i d) (destination_mended i (members_in d))
unfolding destination_in destination_checks_in destination_mended
destination-read i d = entry (Kind (key.DestinationEntry i)) _ (destination_checks i) (destination_mended i) d (λ t.
    one unread (point_at true (key.DestinationPoint i) t) _ _ _ (
    one [] (names_at true (key.DestinationSets i) t) _ _ _ (
    one false (truth_at true (key.DestinationJoined i) t) _ _ _ refl)))

change-read : (i : ℕ) (t : Members) → change_at true i t ≡ checked_by (title_change_checks i t) (change_mended i t)
unfolding change_at change_mended
change-read i t =
    one None (optional_integer_at true (key.TitleNewPlan i) t) _ _ _ (
    one None (optional_integer_at true (key.TitleNewNature i) t) _ _ _ (
    one None (optional_integer_at true (key.TitleRemove i) t) _ _ _ (
    one [] (optional_text_at true (key.TitleAdd i) t) _ _ _ refl)))

title-read : (i : ℕ) (d : Data) → title_in true true i d ≡ checked_by (title_checks_in i d) (title_mended i (members_in d))
unfolding title_in title_checks_in title_mended
title-read i d = entry (Kind (key.TitleEntry i)) _ (title_checks i) (title_mended i) d (λ t.
    one unread (integer_at (key.TitleTranslation i) t) _ _ _ (
    one unread (integer_at (key.TitlePlan i) t) _ _ _ (
    one unread (integer_at (key.TitleNature i) t) _ _ _ (
    one [] (text_at (key.TitleDigits i) t) _ _ _ (
    one unread (point_at true (key.TitlePoint i) t) _ _ _ (
    one None (optional_point_at true true (key.TitleBackup i) t) _ _ _ (
    one [] (text_at (key.TitleRoute i) t) _ _ _ (
    one None (ssn_at i (or_else [] (text_at (key.TitleRoute i) t)) t) _ _ _ (
    last (title_change_checks i t) (change_mended i t) (change_at true i t) _ (change-read i t))))))))))

each-read : {A : Type 0} (read : ℕ → Data → Result A SettingsFault) (checks : ℕ → Data → List (Option SettingsFault)) (mend : ℕ → Members → A) (i : ℕ) (ds : List Data)
    → ((j : ℕ) (d : Data) → read j d ≡ checked_by (checks j d) (mend j (members_in d))) → each read i ds ≡ checked_by (each_check checks i ds) (each_mended mend i ds)
each-read read checks mend i [] h = refl
each-read read checks mend i (d ∷ ds) h =
    several (checks i d) (mend i (members_in d)) (read i d) _ (each_check checks (i + 1) ds) _ (h i d) (
    last (each_check checks (i + 1) ds) (each_mended mend (i + 1) ds) (each read (i + 1) ds) (λ xs. mend i (members_in d) ∷ xs) (each-read read checks mend (i + 1) ds h))

-- an array that must have an entry
array-read : {A : Type 0} (array : Key) (read : ℕ → Data → Result A SettingsFault) (checks : ℕ → Data → List (Option SettingsFault)) (mend : ℕ → Members → A) (t : Members)
    → ((j : ℕ) (d : Data) → read j d ≡ checked_by (checks j d) (mend j (members_in d)))
    → and_then (entries_at array t) (each read 0) ≡ checked_by (array_checks checks (entries_at array t)) (each_mended mend 0 (entries_mended array t))
unfolding entries_at value_at
array-read {A} array read checks mend t h = by (found_at array t)
  where
    within : (listed : Result (List Data) SettingsFault)
        → and_then (and_then listed (some_in array)) (each read 0) ≡ checked_by (array_checks checks (and_then listed (some_in array))) (each_mended mend 0 (or_else [] listed))
    within (Err fault) = refl
    within (Ok []) = refl
    within (Ok (d ∷ ds)) = each-read read checks mend 0 (d ∷ ds) h

    by : (found : Option Data)
        → and_then (and_then (ok_or found (Missing array)) (λ d. and_then (array_in (Kind array) d) (some_in array))) (each read 0)
        ≡ checked_by (array_checks checks (and_then (ok_or found (Missing array)) (λ d. and_then (array_in (Kind array) d) (some_in array)))) (each_mended mend 0 (entries_if_any array found))
    by None = refl
    by (Some d) = within (array_in (Kind array) d)

titles-read : (found : Option Data) → titles_in true true found ≡ checked_by (titles_checks_in found) (each_mended title_mended 0 (entries_if_any key.Title found))
titles-read None = refl
titles-read (Some d) = within (array_in (Kind key.Title) d)
  where
    within : (listed : Result (List Data) SettingsFault)
        → and_then listed (each (title_in true true) 0) ≡ checked_by (array_checks title_checks_in listed) (each_mended title_mended 0 (or_else [] listed))
    within (Err fault) = refl
    within (Ok ds) = each-read (title_in true true) title_checks_in title_mended 0 ds title-read

-- ---- timers

fault-some : {A : Type 0} (read : Result A SettingsFault) → fault_in read ≡ fault_in (and_then read (λ n. Ok (Some n)))
fault-some (Ok n) = refl
fault-some (Err fault) = refl

-- a timer that runs as usual if it is left out
timer-fault : (tick_ms : ℕ) (timer : TimerKey) (usual_ms : ℕ) (t : Option Members) → fault_in (ticks_at (Some tick_ms) timer usual_ms t) ≡ fault_in (optional_ticks_at true (Some tick_ms) timer t)
unfolding ticks_at optional_ticks_at
timer-fault tick_ms timer usual_ms t = by (timer_found timer t)
  where
    by : (found : Option Data) → fault_in (ticks_of (Some tick_ms) timer usual_ms found) ≡ fault_in (ticks_if_any (Some tick_ms) timer found)
    by None = refl
    by (Some d) = fault-some (ticks_in (Some tick_ms) timer d)

timer : {B : Type 0} (tick_ms : ℕ) (which : TimerKey) (usual_ms : ℕ) (t : Option Members) (next : ℤ → Result B SettingsFault) (rest : List (Option SettingsFault)) (value : B)
    → next (ticks_mended (Some tick_ms) which usual_ms t) ≡ checked_by rest value
    → and_then (ticks_at (Some tick_ms) which usual_ms t) next ≡ checked_by (fault_in (optional_ticks_at true (Some tick_ms) which t) ∷ rest) value
timer tick_ms which usual_ms t next rest value h =
    one unread (ticks_at (Some tick_ms) which usual_ms t) next rest value h ∙ ap (λ (check : Option SettingsFault). checked_by (check ∷ rest) value) (timer-fault tick_ms which usual_ms t)

-- a timer that is left out
left-out : (tick_ms : ℕ) (which : TimerKey) (t : Option Members) → has_timer which t ≡ false → fault_in (optional_ticks_at true (Some tick_ms) which t) ≡ None
unfolding optional_ticks_at
left-out tick_ms which t h = by (timer_found which t) h
  where
    by : (found : Option Data) → is_some found ≡ false → fault_in (ticks_if_any (Some tick_ms) which found) ≡ None
    by None k = refl
    by (Some d) k = cc

abbrev link_tests_checks : ℕ → Option Members → List (Option SettingsFault)
link_tests_checks tick_ms t = fault_in (optional_ticks_at true (Some tick_ms) Slt1 t) ∷ fault_in (optional_ticks_at true (Some tick_ms) Slt2 t) ∷ []

link-tests-read : (tick_ms : ℕ) (t : Option Members) → link_tests_at true (Some tick_ms) t ≡ checked_by (link_tests_checks tick_ms t) (link_tests_mended (Some tick_ms) t)
unfolding link_tests_at
link-tests-read tick_ms t = by (has_timer Slt1 t || has_timer Slt2 t) refl
  where
    clock : Option ℕ
    clock = Some tick_ms

    neither : (a b : Bool) → (a || b) ≡ false → (a ≡ false) × (b ≡ false)
    neither false false h = (refl, refl)
    neither true b h = cc
    neither false true h = cc

    by : (some : Bool) → (has_timer Slt1 t || has_timer Slt2 t) ≡ some
        → (if (has_timer Slt1 t || has_timer Slt2 t)
        then and_then (ticks_at clock Slt1 usual_times.slt1 t) (λ slt1. and_then (ticks_at clock Slt2 usual_times.slt2 t) (λ slt2. Ok (Some (record { slt1 = slt1; slt2 = slt2 }))))
        else Ok None)
        ≡ checked_by (link_tests_checks tick_ms t) (link_tests_mended clock t)
    by false h =
        let none = neither (has_timer Slt1 t) (has_timer Slt2 t) h in
        rw (h, left-out tick_ms Slt1 t none.0, left-out tick_ms Slt2 t none.1) refl
    by true h = rw h (timer tick_ms Slt1 usual_times.slt1 t _ _ _ (timer tick_ms Slt2 usual_times.slt2 t _ _ _ refl))

-- the last timers, each of which there may not be
abbrev late_checks : ℕ → Option Members → List (Option SettingsFault)
late_checks tick_ms t =
    fault_in (optional_ticks_at true (Some tick_ms) L4e t) ∷ fault_in (optional_ticks_at true (Some tick_ms) Sst t) ∷ fault_in (optional_ticks_at true (Some tick_ms) T2Bar t) ∷ []

timers-in-read : (tick_ms : ℕ) (t : Option Members) → timers_in true (Some tick_ms) t ≡ checked_by (each_timer (Some tick_ms) t timer_keys) (timers_mended_in (Some tick_ms) t)
unfolding timers_in timers_mended_in
timers-in-read tick_ms t =
    timer tick_ms L1 usual_times.l1 t _ _ _ (
    timer tick_ms L2 usual_times.l2 t _ _ _ (
    timer tick_ms L3 usual_times.l3 t _ _ _ (
    timer tick_ms L4 usual_times.l4 t _ _ _ (
    timer tick_ms L6 usual_times.l6 t _ _ _ (
    timer tick_ms L7 usual_times.l7 t _ _ _ (
    timer tick_ms T1 usual_times.t1 t _ _ _ (
    timer tick_ms T2 usual_times.t2 t _ _ _ (
    timer tick_ms T3 usual_times.t3 t _ _ _ (
    timer tick_ms T4 usual_times.t4 t _ _ _ (
    timer tick_ms T6 usual_times.t6 t _ _ _ (
    timer tick_ms T8 usual_times.t8 t _ _ _ (
    timer tick_ms T10 usual_times.t10 t _ _ _ (
    several (link_tests_checks tick_ms t) (link_tests_mended (Some tick_ms) t) (link_tests_at true (Some tick_ms) t) _ (late_checks tick_ms t) (timers_mended_in (Some tick_ms) t) (link-tests-read tick_ms t) (
    one None (optional_ticks_at true (Some tick_ms) L4e t) _ _ _ (
    one None (optional_ticks_at true (Some tick_ms) Sst t) _ _ _ (
    one None (optional_ticks_at true (Some tick_ms) T2Bar t) _ _ _ refl))))))))))))))))

timers-read : (t : Members) → timers_at true (Some (tick_of t)) t ≡ checked_by (timers_checks t) (timers_mended t)
unfolding timers_at timers_checks timers_mended
timers-read t = by (table_at (Some (tick_of t)) t)
  where
    by : (table : Result (Option Members) SettingsFault)
        → and_then table (timers_in true (Some (tick_of t))) ≡ checked_by (timers_checks_in (Some (tick_of t)) table) (timers_mended_in (Some (tick_of t)) (or_else None table))
    by (Ok found) = timers-in-read (tick_of t) found
    by (Err fault) = refl

-- ---- the document

-- the number of a version that is the fourth
fourth-in : (found : Option Data) → has_since (option_flatten (option_map as_integer found)) Fourth ≡ true → and_then (ok_or found (Missing key.Version)) (integer_in (Kind key.Version)) ≡ Ok (pos 4)
unfolding integer_in
fourth-in None h = cc
fourth-in (Some d) h = by (as_integer d) h
  where
    by : (version : Option ℤ) → has_since version Fourth ≡ true → ok_or version (Kind key.Version) ≡ Ok (pos 4)
    by None k = cc
    by (Some version) k = ap Ok ((Decides-int_eq version (pos 4)).0 k)

fourth-read : (t : Members) → has_fourth t ≡ true → integer_at key.Version t ≡ Ok (pos 4)
unfolding integer_at value_at key_name
fourth-read t h = fourth-in (get_member (codes "version") t) h

numbers_mended : Members → Numbers
numbers_mended t = record {
  version = pos 4;
  own = or_else unread (point_at true key.Own t);
  network = or_else unread (integer_at key.Network t);
  window = or_else unread (integer_at key.Window t);
  pool = or_else unread (integer_at key.Pool t);
}

abbrev numbers_checks : Members → List (Option SettingsFault)
numbers_checks t = fault_in (point_at true key.Own t) ∷ fault_in (integer_at key.Network t) ∷ fault_in (integer_at key.Window t) ∷ fault_in (integer_at key.Pool t) ∷ []

numbers-read : (t : Members) → has_fourth t ≡ true → numbers_at t ≡ checked_by (numbers_checks t) (numbers_mended t)
unfolding numbers_at numbers_mended
numbers-read t h = rw (fourth-read t h) (
    one unread (point_at true key.Own t) _ _ _ (
    one unread (integer_at key.Network t) _ _ _ (
    one unread (integer_at key.Window t) _ _ _ (
    one unread (integer_at key.Pool t) _ _ _ refl))))

services_mended : Members → Services
services_mended t = record {
  extended_unitdata = or_else false (truth_at true key.ExtendedUnitdata t);
  subsystem_tests = or_else false (truth_at true key.SubsystemTests t);
  user_part_unavailable = or_else false (truth_at true key.UserPartUnavailable t);
  processor_outage = or_else false (truth_at true key.ProcessorOutage t);
  out_of_service = or_else false (truth_at true key.OutOfService t);
  changeover_by_any_route = or_else false (truth_at true key.ChangeoverByAnyRoute t);
}

services-read : (t : Members) → services_at true true t ≡ checked_by (service_checks t) (services_mended t)
unfolding services_at services_mended
services-read t =
    one false (truth_at true key.ExtendedUnitdata t) _ _ _ (
    one false (truth_at true key.SubsystemTests t) _ _ _ (
    one false (truth_at true key.UserPartUnavailable t) _ _ _ (
    one false (truth_at true key.ProcessorOutage t) _ _ _ (
    one false (truth_at true key.OutOfService t) _ _ _ (
    one false (truth_at true key.ChangeoverByAnyRoute t) _ _ _ refl)))))

sets-read : (t : Members) → sets_at true t ≡ checked_by (array_checks set_checks_in (entries_at key.Set t)) (each_mended set_mended 0 (entries_mended key.Set t))
unfolding sets_at
sets-read t = array-read key.Set (set_in true) set_checks_in set_mended t set-read

links-read : (t : Members) → links_at true true t ≡ checked_by (array_checks link_checks_in (entries_at key.Link t)) (each_mended link_mended 0 (entries_mended key.Link t))
unfolding links_at
links-read t = array-read key.Link (link_entry_in true true) link_checks_in link_mended t link-read

destinations-read : (t : Members)
    → destinations_at true true t ≡ checked_by (array_checks destination_checks_in (entries_at key.Destination t)) (each_mended destination_mended 0 (entries_mended key.Destination t))
unfolding destinations_at
destinations-read t = array-read key.Destination (destination_in true true) destination_checks_in destination_mended t destination-read

document-read : (t : Members) → has_fourth t ≡ true → document t ≡ checked_by (reading_checks t) (document_mended t)
unfolding document reading_checks arrays_checks mended numbers_mended services_mended titles_at
document-read t h =
    let done = document_mended t in
    let users = fault_in (integers_if_any_at true key.Users t) in
    let subsystems = fault_in (integers_if_any_at true key.Subsystems t) in
    let titles = titles_checks_in (found_at key.Title t) in
    let destinations = array_checks destination_checks_in (entries_at key.Destination t) in
    let links = array_checks link_checks_in (entries_at key.Link t) in
    let sets = array_checks set_checks_in (entries_at key.Set t) in
    let arrays = sets ++ (links ++ (destinations ++ titles)) in
    let timers = timers_checks t in
    let services = service_checks t in
    several (numbers_checks t) (numbers_mended t) (numbers_at t) _ (users ∷ subsystems ∷ (services ++ (timers ++ arrays))) done (numbers-read t h) (
    one [] (integers_if_any_at true key.Users t) _ (subsystems ∷ (services ++ (timers ++ arrays))) done (
    one [] (integers_if_any_at true key.Subsystems t) _ (services ++ (timers ++ arrays)) done (
    several services (services_mended t) (services_at true true t) _ (timers ++ arrays) done (services-read t) (
    several timers (timers_mended t) (timers_at true (Some (tick_of t)) t) _ arrays done (timers-read t) (
    several sets (each_mended set_mended 0 (entries_mended key.Set t)) (sets_at true t) _ (links ++ (destinations ++ titles)) done (sets-read t) (
    several links (each_mended link_mended 0 (entries_mended key.Link t)) (links_at true true t) _ (destinations ++ titles) done (links-read t) (
    several destinations (each_mended destination_mended 0 (entries_mended key.Destination t)) (destinations_at true true t) _ titles done (destinations-read t) (
    last titles (each_mended title_mended 0 (entries_mended key.Title t)) (titles_at true true t) _ (titles-read (found_at key.Title t))))))))))

pub reading-checked : (t : Members) → has_fourth t ≡ true → reading_in t ≡ checked_by (reading_checks t) (document_mended t)
unfolding reading_in
reading-checked t h = rw (document-read t h) (known (reading_checks t))
  where
    known : (checks : List (Option SettingsFault)) → and_then (checked_by checks (document_mended t)) of_known_version ≡ checked_by checks (document_mended t)
    known [] = refl
    known (None ∷ rest) = known rest
    known (Some fault ∷ rest) = refl
