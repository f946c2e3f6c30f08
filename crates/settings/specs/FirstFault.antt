-- The first fault of settings as they were written.
use Rattle.std.specs.Prelude.{false, String, string_eq, ℕ, Bool, not, ◌&&◌, ◌||◌, nat_eq, nat_le, nat_lt, ℤ, List, [], ◌∷◌}
use Rattle.std.specs.Prelude.{Option, Some, None, length, is_some, string_bytes}
use Rattle.std.specs.declared.alloc.Global.{Global}
use Rattle.std.specs.List.{list_any, list_all}
use Rattle.std.specs.Str.{bytes_eq}
use Rattle.std.specs.Ordering.{int_eq}
use Rattle.settings.specs.Checks.{natural, first_of, fault_unless, range_fault, has_repeat, far_point_fault}
use Rattle.settings.specs.Checks.{entries_fault, numbers_fault, count_fault, name_fault, optional_fault}
use Rattle.settings.specs.Meaning.{set_place, points_of}
use Rattle.settings.specs.TitleFaults.{titles_fault}
use Rattle.settings.specs.Names.{is_name}
use Rattle.settings.specs.declared.fault.DraftFault.{DraftFault}
use Rattle.settings.specs.declared.fault.FaultKind.TheVariants.{Range, Duplicate, UnknownName}
use Rattle.settings.specs.declared.key.TimerKey.{TimerKey}
use Rattle.settings.specs.declared.key.TimerKey.TheVariants.{L1, L2, L3, L4, L6, L7, T1, T2, T3, T4, T6, T8, T10}
use Rattle.settings.specs.declared.key.TimerKey.TheVariants.{Slt1, Slt2, L4e, Sst, T2Bar}
use Rattle.settings.specs.declared.key.Key.{Key}
use Rattle.settings.specs.declared.key.Key.TheVariants.{Own, Network, Window, Pool, Users, Subsystems, Timer, Set}
use Rattle.settings.specs.declared.key.Key.TheVariants.{SetName, SetAdjacent, Link, LinkName, LinkSet, LinkSlc}
use Rattle.settings.specs.declared.key.Key.TheVariants.{LinkShare}
use Rattle.settings.specs.declared.key.Key.TheVariants.{Destination, DestinationPoint, DestinationSets}
use Rattle.settings.specs.declared.key.Key.TheVariants.{DestinationJoined}
use Rattle.signalling_types.specs.declared.limits.TheConstants.Limits.{WINDOW, POOL, TICKS, LINKS, SETS}
use Rattle.signalling_types.specs.declared.limits.TheConstants.Limits.{DESTINATIONS, SETS_PER_DESTINATION}
use Rattle.settings.specs.declared.timers.Written.{Written}
use Rattle.settings.specs.declared.draft.Draft.{Draft}
use Rattle.settings.specs.declared.draft.TimersDraft.{TimersDraft}
use Rattle.settings.specs.declared.draft.LinkTestsDraft.{LinkTestsDraft}
use Rattle.settings.specs.declared.draft.SetDraft.{SetDraft}
use Rattle.settings.specs.declared.draft.LinkDraft.{LinkDraft}
use Rattle.settings.specs.declared.draft.DestinationDraft.{DestinationDraft}

-- whether a set of this name is among these
abbrev pub has_set_named : List SetDraft → List ℕ → Bool
has_set_named sets name = list_any (λ s. bytes_eq (string_bytes s.name) name) sets

-- whether a set with this adjacent point is among these
abbrev pub has_adjacent : List SetDraft → ℤ → Bool
has_adjacent sets n = list_any (λ s. int_eq s.adjacent n) sets

-- the name of a set: well formed, and no other before it has it
abbrev pub set_name_fault : List SetDraft → SetDraft → Option DraftFault
set_name_fault earlier s =
    name_fault (SetName (length earlier)) (string_bytes s.name) (has_set_named earlier (string_bytes s.name))

-- the adjacent point of a set: not the node's own, and of no other set before it
abbrev pub set_adjacent_fault : ℕ → List SetDraft → SetDraft → Option DraftFault
set_adjacent_fault own earlier s = first_of (
    far_point_fault own (SetAdjacent (length earlier)) s.adjacent
    ∷ fault_unless (not (has_adjacent earlier s.adjacent)) Duplicate (SetAdjacent (length earlier))
    ∷ [])

-- the checks of a set, after the sets before it
abbrev pub set_checks : ℕ → List SetDraft → SetDraft → List (Option DraftFault)
set_checks own earlier s = set_name_fault earlier s ∷ set_adjacent_fault own earlier s ∷ []

-- the first fault of a set, after the sets before it
abbrev pub set_fault : ℕ → List SetDraft → SetDraft → Option DraftFault
set_fault own earlier s = first_of (set_checks own earlier s)

abbrev pub written : TimerKey → ℤ → Written
written timer ticks = record { timer = timer; ticks = ticks }

abbrev pub timer_in : Written → TimerKey
timer_in w = w.timer

abbrev pub ticks_in : Written → ℤ
ticks_in w = w.ticks

-- the timers that each node has, each with the ticks that were written for it
abbrev pub timers_written : TimersDraft → List Written
timers_written t =
    written L1 t.l1
    ∷ written L2 t.l2
    ∷ written L3 t.l3
    ∷ written L4 t.l4
    ∷ written L6 t.l6
    ∷ written L7 t.l7
    ∷ written T1 t.t1
    ∷ written T2 t.t2
    ∷ written T3 t.t3
    ∷ written T4 t.t4
    ∷ written T6 t.t6
    ∷ written T8 t.t8
    ∷ written T10 t.t10
    ∷ []

-- the ticks of a timer
abbrev pub ticks_fault : List Written → Written → Option DraftFault
ticks_fault earlier w = range_fault 1 TICKS (Timer w.timer) w.ticks

-- the timers of link tests, which may be left out
abbrev pub link_tests_checks : Option LinkTestsDraft → List (Option DraftFault)
link_tests_checks None = []
link_tests_checks (Some tests) =
    range_fault 1 TICKS (Timer Slt1) tests.slt1
    ∷ range_fault 1 TICKS (Timer Slt2) tests.slt2
    ∷ []

unfoldable pub link_tests_fault : Option LinkTestsDraft → Option DraftFault
link_tests_fault tests = first_of (link_tests_checks tests)

-- the bar, which may be left out, is longer than T2
unfoldable pub bar_fault : (t2 : ℕ) → Option ℤ → Option DraftFault
bar_fault t2 None = None
bar_fault t2 (Some bar) = first_of (
    range_fault 1 TICKS (Timer T2Bar) bar
    ∷ fault_unless (nat_lt t2 (natural bar)) Range (Timer T2Bar)
    ∷ [])

-- the timers, in their order; last those that may be left out
unfoldable pub timers_fault : TimersDraft → Option DraftFault
timers_fault t = first_of (
    entries_fault ticks_fault [] (timers_written t)
    ∷ link_tests_fault t.link_tests
    ∷ optional_fault 1 TICKS (Timer L4e) t.l4e
    ∷ optional_fault 1 TICKS (Timer Sst) t.sst
    ∷ bar_fault (natural t.t2) t.t2_bar
    ∷ [])

-- whether a link of this name is among these
abbrev pub has_link_named : List LinkDraft → List ℕ → Bool
has_link_named links name = list_any (λ l. bytes_eq (string_bytes l.name) name) links

-- whether a link of this set with this signalling link code is among these
abbrev pub has_link_code : List LinkDraft → List ℕ → ℤ → Bool
has_link_code links set n = list_any (λ l. int_eq l.slc n && bytes_eq (string_bytes l.set) set) links

-- the name of a link: well formed, and no other before it has it
abbrev pub link_name_fault : List LinkDraft → LinkDraft → Option DraftFault
link_name_fault earlier l =
    name_fault (LinkName (length earlier)) (string_bytes l.name) (has_link_named earlier (string_bytes l.name))

-- the set of a link: well formed, and the name of a set
abbrev pub link_set_fault : List SetDraft → List LinkDraft → LinkDraft → Option DraftFault
link_set_fault sets earlier l = first_of (
    fault_unless (is_name (string_bytes l.set)) Range (LinkSet (length earlier))
    ∷ fault_unless (is_some (set_place sets (string_bytes l.set))) UnknownName (LinkSet (length earlier))
    ∷ [])

-- the signalling link code of a link: 0 to 15, and of no other link of its set before it (Q.704 §15.2)
abbrev pub link_slc_fault : List LinkDraft → LinkDraft → Option DraftFault
link_slc_fault earlier l = first_of (
    range_fault 0 15 (LinkSlc (length earlier)) l.slc
    ∷ fault_unless (not (has_link_code earlier (string_bytes l.set) l.slc)) Duplicate (LinkSlc (length earlier))
    ∷ [])

-- the first fault of a link, after the links before it
abbrev pub link_fault : List SetDraft → List LinkDraft → LinkDraft → Option DraftFault
link_fault sets earlier l = first_of (
    link_name_fault earlier l
    ∷ link_set_fault sets earlier l
    ∷ link_slc_fault earlier l
    ∷ optional_fault 1 POOL (LinkShare (length earlier)) l.share
    ∷ [])

-- whether a destination of this point is among these
abbrev pub has_destination : List DestinationDraft → ℤ → Bool
has_destination destinations n = list_any (nat_eq (natural n)) (points_of destinations)

-- the point of a destination: not the node's own, and of no other before it
abbrev pub destination_point_fault : ℕ → List DestinationDraft → DestinationDraft → Option DraftFault
destination_point_fault own earlier d = first_of (
    far_point_fault own (DestinationPoint (length earlier)) d.point
    ∷ fault_unless (not (has_destination earlier d.point)) Duplicate (DestinationPoint (length earlier))
    ∷ [])

-- whether a text is the name of a set
abbrev pub is_set_name : List SetDraft → String Global → Bool
is_set_name sets name = is_some (set_place sets (string_bytes name))

-- the first fault of the sets that lead to a destination
abbrev pub set_list_fault : List SetDraft → Key → List (String Global) → Option DraftFault
set_list_fault sets key names = first_of (
    count_fault SETS_PER_DESTINATION key (length names)
    ∷ fault_unless (list_all (λ name. is_name (string_bytes name)) names) Range key
    ∷ fault_unless (not (has_repeat string_eq names)) Duplicate key
    ∷ fault_unless (list_all (is_set_name sets) names) UnknownName key
    ∷ [])

-- a destination whose first two sets are joined has two sets
abbrev pub joined_fault : List DestinationDraft → DestinationDraft → Option DraftFault
joined_fault earlier d =
    fault_unless (not d.joined || nat_le 2 (length d.sets.items)) Range (DestinationJoined (length earlier))

-- the first fault of a destination, after the destinations before it
abbrev pub destination_fault : ℕ → List SetDraft → List DestinationDraft → DestinationDraft → Option DraftFault
destination_fault own sets earlier d = first_of (
    destination_point_fault own earlier d
    ∷ set_list_fault sets (DestinationSets (length earlier)) d.sets.items
    ∷ joined_fault earlier d
    ∷ [])

-- whether the first of these names is this one
abbrev pub is_first_name : List ℕ → List (String Global) → Bool
is_first_name name [] = false
is_first_name name (first ∷ rest) = bytes_eq (string_bytes first) name

-- whether a set's adjacent point is a destination whose first set it is
abbrev pub is_reached : List DestinationDraft → SetDraft → Bool
is_reached destinations s =
    list_any (λ d. int_eq d.point s.adjacent && is_first_name (string_bytes s.name) d.sets.items) destinations

-- a set that is not reached, after the sets before it
abbrev pub reached_fault : List DestinationDraft → List SetDraft → SetDraft → Option DraftFault
reached_fault destinations earlier s =
    fault_unless (is_reached destinations s) UnknownName (SetAdjacent (length earlier))

-- the first set that is not reached
unfoldable pub unreached_fault : List DestinationDraft → List SetDraft → Option DraftFault
unreached_fault destinations sets = entries_fault (reached_fault destinations) [] sets

-- the link sets: as many as there may be, and each without a fault
unfoldable pub sets_fault : ℕ → List SetDraft → Option DraftFault
sets_fault own sets = first_of (
    count_fault SETS Set (length sets)
    ∷ entries_fault (set_fault own) [] sets
    ∷ [])

-- the links: as many as there may be, and each without a fault
unfoldable pub links_fault : List SetDraft → List LinkDraft → Option DraftFault
links_fault sets links = first_of (
    count_fault LINKS Link (length links)
    ∷ entries_fault (link_fault sets) [] links
    ∷ [])

-- the destinations: as many as there may be, and each without a fault
unfoldable pub destinations_fault : ℕ → List SetDraft → List DestinationDraft → Option DraftFault
destinations_fault own sets destinations = first_of (
    count_fault DESTINATIONS Destination (length destinations)
    ∷ entries_fault (destination_fault own sets) [] destinations
    ∷ [])

-- the numbers that settings begin with
abbrev pub scalars_checks : Draft → List (Option DraftFault)
scalars_checks d =
    range_fault 0 16383 Own d.own
    ∷ range_fault 0 3 Network d.network
    ∷ range_fault 1 WINDOW Window d.window
    ∷ range_fault 1 POOL Pool d.pool
    ∷ []

unfoldable pub scalars_fault : Draft → Option DraftFault
scalars_fault d = first_of (scalars_checks d)

-- the destinations and the translation rows, and last of all the sets whose adjacent point they don't lead to
unfoldable pub tables_fault : Draft → Option DraftFault
tables_fault d = first_of (
    destinations_fault (natural d.own) d.sets.items d.destinations.items
    ∷ titles_fault d.titles.items
    ∷ unreached_fault d.destinations.items d.sets.items
    ∷ [])

unfoldable pub arrays_fault : Draft → Option DraftFault
arrays_fault d = first_of (
    sets_fault (natural d.own) d.sets.items
    ∷ links_fault d.sets.items d.links.items
    ∷ tables_fault d
    ∷ [])

-- the first fault of settings: the keys in their order, the entries of an array from the first
abbrev pub first_fault : Draft → Option DraftFault
first_fault d = first_of (
    scalars_fault d
    ∷ numbers_fault 4 15 Users d.users.items
    ∷ numbers_fault 1 255 Subsystems d.subsystems.items
    ∷ timers_fault d.timers
    ∷ arrays_fault d
    ∷ [])
