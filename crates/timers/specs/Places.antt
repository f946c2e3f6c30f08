-- The places of the timers that a node has. They rise in name order: kind by kind, and within a
-- kind in the order of the settings.
use Rattle.std.specs.Prelude.{ℕ, ◌+◌, ◌-◌, ◌*◌, ◌/◌, ◌%◌, ◌==◌, nat_lt, min, if◌then◌else◌, Option, None, Some}
use Rattle.signalling_types.specs.declared.limits.TheConstants.Limits.{CHANGEBACK_CODES}
use Rattle.timers.specs.declared.name.TimerName.{TimerName}
use Rattle.timers.specs.declared.name.TimerName.TheVariants.{L1, L2, L3, L4, L6, L7, T1, T2, T3, T4, T6, T8, T10}
use Rattle.timers.specs.declared.name.TimerName.TheVariants.{Slt1, Slt2}
use Rattle.timers.specs.declared.name.NodeCounts.{NodeCounts}
use Rattle.timers.specs.declared.name.RouteTimer.{RouteTimer}
use Rattle.timers.specs.declared.name.RouteTimer.TheVariants as route
use Rattle.timers.specs.Timers.{has_name}

-- no more sets than can be named
abbrev pub named_sets : NodeCounts → NodeCounts
named_sets n = record n { sets = min n.sets 256 }

-- where the places of T4, T6, T8, T10 and of tests begin; those of links come first
abbrev pub codes_from : NodeCounts → ℕ
codes_from n = 9 * n.links

abbrev pub destinations_from : NodeCounts → ℕ
destinations_from n = codes_from n + n.sets * CHANGEBACK_CODES

abbrev pub t8_from : NodeCounts → ℕ
t8_from n = destinations_from n + n.destinations

abbrev pub t10_from : NodeCounts → ℕ
t10_from n = t8_from n + n.sets * n.destinations

abbrev pub slt1_from : NodeCounts → ℕ
slt1_from n = t10_from n + n.sets * n.destinations

abbrev pub slt2_from : NodeCounts → ℕ
slt2_from n = slt1_from n + n.links

abbrev pub place_in : NodeCounts → TimerName → ℕ
place_in n (L1 link) = 0 * n.links + link
place_in n (L2 link) = 1 * n.links + link
place_in n (L3 link) = 2 * n.links + link
place_in n (L4 link) = 3 * n.links + link
place_in n (L6 link) = 4 * n.links + link
place_in n (L7 link) = 5 * n.links + link
place_in n (T1 link) = 6 * n.links + link
place_in n (T2 link) = 7 * n.links + link
place_in n (T3 link) = 8 * n.links + link
place_in n (T4 set code) = codes_from n + (set * CHANGEBACK_CODES + code)
place_in n (T6 destination) = destinations_from n + destination
place_in n (T8 set destination) = t8_from n + (set * n.destinations + destination)
place_in n (T10 set destination) = t10_from n + (set * n.destinations + destination)
place_in n (Slt1 link) = slt1_from n + link
place_in n (Slt2 link) = slt2_from n + link

-- nothing for a name that the node doesn't have
abbrev pub place_of : NodeCounts → TimerName → Option ℕ
place_of n name = if has_name n name then Some (place_in n name) else None

abbrev pub link_name : (kind link : ℕ) → TimerName
link_name kind link =
    if kind == 0 then L1 link
    else if kind == 1 then L2 link
    else if kind == 2 then L3 link
    else if kind == 3 then L4 link
    else if kind == 4 then L6 link
    else if kind == 5 then L7 link
    else if kind == 6 then T1 link
    else if kind == 7 then T2 link
    else T3 link

abbrev pub code_name : ℕ → TimerName
code_name place = T4 (place / CHANGEBACK_CODES) (place % CHANGEBACK_CODES)

abbrev pub route_name : (ℕ → ℕ → TimerName) → (destinations place : ℕ) → TimerName
route_name name destinations place = name (place / destinations) (place % destinations)

abbrev pub name_of_route : RouteTimer → (set destination : ℕ) → TimerName
name_of_route route.T8 set destination = T8 set destination
name_of_route route.T10 set destination = T10 set destination

-- the name of the timer at a place behind those of T10
abbrev pub test_name : NodeCounts → ℕ → TimerName
test_name n place =
    if nat_lt place (slt2_from n) then Slt1 (place - slt1_from n)
    else Slt2 (place - slt2_from n)

-- the name of the timer at a place
abbrev pub name_at : NodeCounts → ℕ → TimerName
name_at n place =
    if nat_lt place (codes_from n) then link_name (place / n.links) (place % n.links)
    else if nat_lt place (destinations_from n) then code_name (place - codes_from n)
    else if nat_lt place (t8_from n) then T6 (place - destinations_from n)
    else if nat_lt place (t10_from n) then route_name T8 n.destinations (place - t8_from n)
    else if nat_lt place (slt1_from n) then route_name T10 n.destinations (place - t10_from n)
    else test_name n place
