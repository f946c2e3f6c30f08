-- All faults of settings as they were written: of each key with a fault its first one, the keys in the order of
-- `first_fault`. What only follows from another fault is not told:
--
-- - where an array has too many entries or too few, its entries are not looked at, and no name is looked up in it;
-- - no point is compared with an own point that is malformed, and no bar with such a T2;
-- - a signalling link code is compared with others only where the link's set is known, and the digits of a translation
--   row only where its numbers are well formed;
-- - that joined sets are two is asked only of a list of sets without a fault, and a subsystem number only where the route
--   is by it;
-- - that a set's point is a destination that it leads to first is asked only if sets and destinations have no fault.
use Rattle.std.specs.Prelude.{ℕ, ℤ, Bool, not, nat_le, List, [], ◌∷◌, ◌++◌, Option, Some, None, length, is_some}
use Rattle.std.specs.Prelude.{if◌then◌else◌, String, string_eq, string_bytes, codes}
use Rattle.std.specs.declared.alloc.Global.{Global}
use Rattle.std.specs.List.{list_any, list_all}
use Rattle.std.specs.Ordering.{int_eq}
use Rattle.std.specs.Str.{bytes_eq}
use Rattle.settings.specs.Checks.{natural, is_within, first_of, all_of, behind, fault_unless, range_fault, far_point_fault}
use Rattle.settings.specs.Checks.{entries_checks, all_behind, has_repeat, count_fault, optional_fault}
use Rattle.settings.specs.Checks.{digits_fault, route_fault, ssn_fault}
unfoldable use Rattle.settings.specs.Checks.{numbers_fault}
use Rattle.settings.specs.Meaning.{set_place}
use Rattle.settings.specs.FirstFault.{set_checks, link_name_fault, has_link_code, is_set_name, joined_fault, reached_fault}
use Rattle.settings.specs.FirstFault.{ticks_fault, timers_written, link_tests_checks, scalars_checks}
unfoldable use Rattle.settings.specs.FirstFault.{bar_fault}
use Rattle.settings.specs.TitleFaults.{is_same_title, title_numbers_checks, title_numbers_fault, title_change_checks}
use Rattle.settings.specs.Names.{is_name}
use Rattle.settings.specs.declared.fault.DraftFault.{DraftFault}
use Rattle.settings.specs.declared.fault.FaultKind.TheVariants.{Range, Duplicate, UnknownName, TooMany}
use Rattle.settings.specs.declared.key.TimerKey.TheVariants.{L4e, Sst}
use Rattle.settings.specs.declared.key.Key.{Key}
use Rattle.settings.specs.declared.key.Key.TheVariants.{Users, Subsystems, Timer, Set, Link, LinkSet, LinkSlc, LinkShare}
use Rattle.settings.specs.declared.key.Key.TheVariants.{Destination, DestinationPoint, DestinationSets}
use Rattle.settings.specs.declared.key.Key.TheVariants.{Title, TitleDigits, TitlePoint, TitleBackup, TitleRoute, TitleSsn}
use Rattle.signalling_types.specs.declared.limits.TheConstants.Limits.{POOL, TICKS, LINKS, SETS, TITLES}
use Rattle.signalling_types.specs.declared.limits.TheConstants.Limits.{DESTINATIONS, SETS_PER_DESTINATION}
use Rattle.settings.specs.declared.timers.Written.{Written}
use Rattle.settings.specs.declared.draft.Draft.{Draft}
use Rattle.settings.specs.declared.draft.TimersDraft.{TimersDraft}
use Rattle.settings.specs.declared.draft.SetDraft.{SetDraft}
use Rattle.settings.specs.declared.draft.LinkDraft.{LinkDraft}
use Rattle.settings.specs.declared.draft.DestinationDraft.{DestinationDraft}
use Rattle.settings.specs.declared.draft.TitleDraft.{TitleDraft}

-- the point that others must differ from: the node's own; if that is malformed, 16384, which no point is
abbrev pub own_point : ℤ → ℕ
own_point own = if is_within 0 16383 own then natural own else 16384

-- the ticks that a bar must be longer than: those of T2; if they are malformed, none
abbrev pub ticks_before_bar : ℤ → ℕ
ticks_before_bar t2 = if is_within 1 TICKS t2 then natural t2 else 0

-- a timer
abbrev pub ticks_checks : List Written → Written → List (Option DraftFault)
ticks_checks earlier w = ticks_fault earlier w ∷ []

-- the timers that may be left out, but for those of link tests
abbrev pub late_timers_checks : TimersDraft → List (Option DraftFault)
late_timers_checks t =
    optional_fault 1 TICKS (Timer L4e) t.l4e
    ∷ optional_fault 1 TICKS (Timer Sst) t.sst
    ∷ bar_fault (ticks_before_bar t.t2) t.t2_bar
    ∷ []

-- the timers, in their order; last those that may be left out
unfoldable pub timers_checks : TimersDraft → List (Option DraftFault)
timers_checks t =
    entries_checks ticks_checks [] (timers_written t) ++ (link_tests_checks t.link_tests ++ late_timers_checks t)

-- the number of the link sets
abbrev pub set_count_fault : List SetDraft → Option DraftFault
set_count_fault sets = count_fault SETS Set (length sets)

-- the link sets: as many as there may be, or each of them
unfoldable pub sets_checks : ℕ → List SetDraft → List (Option DraftFault)
sets_checks own sets =
    set_count_fault sets ∷ all_behind (set_count_fault sets) (entries_checks (set_checks own) [] sets)

-- the set of a link: well formed, and the name of a set, if there are as many sets as there may be
abbrev pub link_set_check : List SetDraft → List LinkDraft → LinkDraft → Option DraftFault
link_set_check sets earlier l = first_of (
    fault_unless (is_name (string_bytes l.set)) Range (LinkSet (length earlier))
    ∷ behind (set_count_fault sets)
    (fault_unless (is_some (set_place sets (string_bytes l.set))) UnknownName (LinkSet (length earlier)))
    ∷ [])

-- the signalling link code of a link: 0 to 15, and of no other link of its set before it (Q.704 §15.2)
abbrev pub link_slc_check : List SetDraft → List LinkDraft → LinkDraft → Option DraftFault
link_slc_check sets earlier l = first_of (
    range_fault 0 15 (LinkSlc (length earlier)) l.slc
    ∷ behind (link_set_check sets earlier l)
    (fault_unless (not (has_link_code earlier (string_bytes l.set) l.slc)) Duplicate (LinkSlc (length earlier)))
    ∷ [])

-- a link, after the links before it
abbrev pub link_checks : List SetDraft → List LinkDraft → LinkDraft → List (Option DraftFault)
link_checks sets earlier l =
    link_name_fault earlier l
    ∷ link_set_check sets earlier l
    ∷ link_slc_check sets earlier l
    ∷ optional_fault 1 POOL (LinkShare (length earlier)) l.share
    ∷ []

abbrev pub link_count_fault : List LinkDraft → Option DraftFault
link_count_fault links = count_fault LINKS Link (length links)

-- the links: as many as there may be, or each of them
unfoldable pub links_checks : List SetDraft → List LinkDraft → List (Option DraftFault)
links_checks sets links =
    link_count_fault links ∷ all_behind (link_count_fault links) (entries_checks (link_checks sets) [] links)

-- whether a destination of this point is among these
abbrev pub has_point : List DestinationDraft → ℤ → Bool
has_point destinations n = list_any (λ d. int_eq d.point n) destinations

-- the point of a destination: not the node's own, and of no other before it
abbrev pub destination_point_check : ℕ → List DestinationDraft → DestinationDraft → Option DraftFault
destination_point_check own earlier d = first_of (
    far_point_fault own (DestinationPoint (length earlier)) d.point
    ∷ fault_unless (not (has_point earlier d.point)) Duplicate (DestinationPoint (length earlier))
    ∷ [])

-- that names are those of sets, if there are as many sets as there may be
abbrev pub known_check : List SetDraft → Key → List (String Global) → Option DraftFault
known_check sets key names =
    behind (set_count_fault sets) (fault_unless (list_all (is_set_name sets) names) UnknownName key)

-- the sets that lead to a destination
abbrev pub set_list_check : List SetDraft → Key → List (String Global) → Option DraftFault
set_list_check sets key names = first_of (
    count_fault SETS_PER_DESTINATION key (length names)
    ∷ fault_unless (list_all (λ name. is_name (string_bytes name)) names) Range key
    ∷ fault_unless (not (has_repeat string_eq names)) Duplicate key
    ∷ known_check sets key names
    ∷ [])

-- a destination, after the destinations before it
abbrev pub destination_checks : ℕ → List SetDraft → List DestinationDraft → DestinationDraft → List (Option DraftFault)
destination_checks own sets earlier d =
    destination_point_check own earlier d
    ∷ set_list_check sets (DestinationSets (length earlier)) d.sets.items
    ∷ behind (set_list_check sets (DestinationSets (length earlier)) d.sets.items) (joined_fault earlier d)
    ∷ []

abbrev pub destination_count_fault : List DestinationDraft → Option DraftFault
destination_count_fault destinations = count_fault DESTINATIONS Destination (length destinations)

-- the destinations: as many as there may be, or each of them
unfoldable pub destinations_checks : ℕ → List SetDraft → List DestinationDraft → List (Option DraftFault)
destinations_checks own sets destinations =
    destination_count_fault destinations
    ∷ all_behind (destination_count_fault destinations) (entries_checks (destination_checks own sets) [] destinations)

-- the digits of a translation row: well formed, and no row before it has the same key and digits
abbrev pub title_digits_check : List TitleDraft → TitleDraft → Option DraftFault
title_digits_check earlier t = first_of (
    digits_fault (TitleDigits (length earlier)) (string_bytes t.digits)
    ∷ behind (title_numbers_fault (length earlier) t)
    (fault_unless (not (list_any (is_same_title t) earlier)) Duplicate (TitleDigits (length earlier)))
    ∷ [])

-- whether a translation row is routed by subsystem number
abbrev pub is_by_number : TitleDraft → Bool
is_by_number t = bytes_eq (string_bytes t.route) (codes "ssn")

-- where a translation row at this index leads to: its point, its backup, its route and its subsystem number
abbrev pub title_target_checks : ℕ → TitleDraft → List (Option DraftFault)
title_target_checks place t =
    range_fault 0 16383 (TitlePoint place) t.point
    ∷ optional_fault 0 16383 (TitleBackup place) t.backup
    ∷ route_fault (TitleRoute place) (string_bytes t.route)
    ∷ ssn_fault (not (is_by_number t)) (TitleSsn place) t.ssn
    ∷ []

-- a translation row, after the rows before it
unfoldable pub title_checks : List TitleDraft → TitleDraft → List (Option DraftFault)
title_checks earlier t =
    title_numbers_checks (length earlier) t
    ++ (title_digits_check earlier t
    ∷ title_target_checks (length earlier) t ++ title_change_checks (length earlier) t.change)

abbrev pub title_count_fault : List TitleDraft → Option DraftFault
title_count_fault titles = fault_unless (nat_le (length titles) TITLES) TooMany Title

-- the translation rows: as many as there may be, or each of them
unfoldable pub titles_checks : List TitleDraft → List (Option DraftFault)
titles_checks titles =
    title_count_fault titles ∷ all_behind (title_count_fault titles) (entries_checks title_checks [] titles)

-- a set that is not reached, after the sets before it
abbrev pub reached_checks : List DestinationDraft → List SetDraft → SetDraft → List (Option DraftFault)
reached_checks destinations earlier s = reached_fault destinations earlier s ∷ []

-- the sets that are not reached, if there is no fault before
unfoldable pub unreached_checks : Option DraftFault → List DestinationDraft → List SetDraft → List (Option DraftFault)
unreached_checks before destinations sets = all_behind before (entries_checks (reached_checks destinations) [] sets)

-- the first fault of sets and destinations
abbrev pub routes_fault : ℕ → Draft → Option DraftFault
routes_fault own d = first_of (
    sets_checks own d.sets.items ++ destinations_checks own d.sets.items d.destinations.items)

-- the arrays, and last of all the sets whose adjacent point the destinations don't lead to
unfoldable pub arrays_checks : ℕ → Draft → List (Option DraftFault)
arrays_checks own d =
    sets_checks own d.sets.items
    ++ (links_checks d.sets.items d.links.items
    ++ (destinations_checks own d.sets.items d.destinations.items
    ++ (titles_checks d.titles.items
    ++ unreached_checks (routes_fault own d) d.destinations.items d.sets.items)))

-- the numbers of user parts and of subsystems
abbrev pub lists_checks : Draft → List (Option DraftFault)
lists_checks d = numbers_fault 4 15 Users d.users.items ∷ numbers_fault 1 255 Subsystems d.subsystems.items ∷ []

-- all checks of settings, the keys in their order, the entries of an array from the first
unfoldable pub all_checks : Draft → List (Option DraftFault)
all_checks d =
    scalars_checks d ++ (lists_checks d ++ (timers_checks d.timers ++ arrays_checks (own_point d.own) d))

-- all faults of settings
abbrev pub all_faults : Draft → List DraftFault
all_faults d = all_of (all_checks d)

-- the first of several faults
abbrev pub first_in : List DraftFault → Option DraftFault
first_in [] = None
first_in (fault ∷ rest) = Some fault
