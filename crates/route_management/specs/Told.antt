-- What adjacent points were told of destinations (Q.704 §13.2 to §13.4).
use Rattle.std.specs.Prelude.{ℕ, Bool, false, List, [], Option, Some, None, length, map, replicate, nat_eq, position, slice_get, slice_index_or, slice_set, ◌&&◌, ◌==◌, not, ◌∷◌, if◌then◌else◌, ◌||◌}
use Rattle.settings.specs.Configuration.{SetEntry, DestinationEntry}
use Rattle.routes.specs.declared.route.RouteStatus.{RouteStatus}
use Rattle.routes.specs.declared.route.RouteStatus.TheVariants.{Allowed, Prohibited, Restricted}
use Rattle.std.specs.List.{list_any, range_with_len, filter_map, flat_map}
use Rattle.std.specs.Option.{option_map}
use Rattle.routes.specs.Routes.{has_link, Facts, set_at, chosen_routes, status_number, leads_by, status_of}
use Rattle.routes.specs.declared.route.Route.{Route}
use Rattle.route_management.specs.declared.heard.Heard.{Heard}
use Rattle.route_management.specs.declared.heard.Heard.TheVariants.{Ignored, Unchanged, Changed}
use Rattle.route_management.specs.declared.heard.RouteTest.{RouteTest}
use Rattle.route_management.specs.declared.heard.RouteTest.TheVariants as test

-- for each set, the number of the destination that its links lead to, and what that point was told of each destination
pub record ToldTable : Type 0 where
  pub adjacents : List (Option ℕ)
  pub rows : List (List RouteStatus)

abbrev pub is_number : ℕ → Option ℕ → Bool
is_number n None = false
is_number n (Some m) = nat_eq m n

-- whether a destination is the adjacent point of a set itself
abbrev pub is_own_point : ToldTable → (set destination : ℕ) → Bool
is_own_point t set destination = is_number destination (slice_index_or t.adjacents set None)

-- what the adjacent point of a set was told
abbrev pub row_of : ToldTable → ℕ → List RouteStatus
row_of t set = slice_index_or t.rows set []

-- what it was told of a destination, if both are there
abbrev pub told_at : ToldTable → (set destination : ℕ) → Option RouteStatus
told_at t set destination = slice_get (row_of t set) destination

-- for each set, of how many destinations its point is told
abbrev pub shape_of : ToldTable → List ℕ
shape_of t = map length t.rows

-- ---- how they begin

-- the number of the destination that the links of a set lead to
abbrev pub adjacent_place : List DestinationEntry → SetEntry → Option ℕ
adjacent_place destinations s = position (λ d. nat_eq s.adjacent d.point) destinations

-- at first all are allowed
abbrev pub first_told : List SetEntry → List DestinationEntry → ToldTable
first_told sets destinations = record {
  adjacents = map (adjacent_place destinations) sets;
  rows = replicate (length sets) (replicate (length destinations) Allowed);
}

-- ---- how they change

-- the adjacent point of a set was told of a destination
abbrev pub with_told : (set destination : ℕ) → RouteStatus → ToldTable → ToldTable
with_told set destination status t =
    record t { rows = slice_set t.rows set (slice_set (row_of t set) destination status) }

-- it takes all for allowed
abbrev pub with_told_reset : ℕ → ToldTable → ToldTable
with_told_reset set t = record t { rows = slice_set t.rows set (map (λ old. Allowed) (row_of t set)) }

-- ---- What adjacent points are to be told, and what of that they don't know yet (Q.704 §13.2 to §13.4).

-- whether two statuses are the same
abbrev pub is_same : RouteStatus → RouteStatus → Bool
is_same a b = status_number a == status_number b

-- what the adjacent point of a set is to be told of a destination, by the routes that messages take there: not to send
-- them if there is no route, or if they may come back; otherwise the status of those routes, allowed or restricted
abbrev pub said_by : ℕ → List Route → RouteStatus
said_by set [] = Prohibited
said_by set (first ∷ rest) = if list_any (leads_by set) (first ∷ rest) then Prohibited else first.status

abbrev pub status_to_advertise : Facts → (set destination : ℕ) → RouteStatus
status_to_advertise f set destination = said_by set (chosen_routes f destination)

-- an adjacent point is reached while its own set has a link in service
abbrev pub is_reachable : Facts → ℕ → Bool
is_reachable f set = has_link f.in_service (set_at f set)

-- whether what was told is something else
abbrev pub is_unlike : Option RouteStatus → RouteStatus → Bool
is_unlike None status = false
is_unlike (Some told) status = not (is_same told status)

-- whether the adjacent point of a set is owed an update about a destination
abbrev pub is_owed : Facts → ToldTable → (set destination : ℕ) → Bool
is_owed f t set destination =
    is_reachable f set && (not (is_own_point t set destination)
    && is_unlike (told_at t set destination) (status_to_advertise f set destination))

-- and which status
abbrev pub owed_at : Facts → ToldTable → (set destination : ℕ) → Option RouteStatus
owed_at f t set destination = if is_owed f t set destination then Some (status_to_advertise f set destination) else None

-- ---- all that is owed

pub record Owed : Type 0 where
  pub set : ℕ
  pub destination : ℕ
  pub status : RouteStatus

abbrev pub owed_about : Facts → ToldTable → (set destination : ℕ) → Option Owed
owed_about f t set destination =
    option_map (λ status. record { set = set; destination = destination; status = status })
    (owed_at f t set destination)

-- what is owed to the adjacent point of a set of this many destinations, from one on
abbrev pub owed_from : Facts → ToldTable → (set from count : ℕ) → List Owed
owed_from f t set from count = filter_map (owed_about f t set) (range_with_len from count)

-- what is owed to it of all destinations, in order
abbrev pub owed_to : Facts → ToldTable → ℕ → List Owed
owed_to f t set = owed_from f t set 0 (length (row_of t set))

-- what is owed to the adjacent points of this many sets, from one on
abbrev pub owed_by_sets : Facts → ToldTable → (from count : ℕ) → List Owed
owed_by_sets f t from count = flat_map (owed_to f t) (range_with_len from count)

-- what is owed, by set and then by destination
abbrev pub owed : Facts → ToldTable → List Owed
owed f t = owed_by_sets f t 0 (length t.rows)

-- whether no point is owed a word
unfoldable pub owes_nothing : Facts → ToldTable → Bool
owes_nothing f t = length (owed f t) == 0

-- what was told once all of these are told, one after the other
abbrev pub all_told : List Owed → ToldTable → ToldTable
all_told [] t = t
all_told (o ∷ os) t = all_told os (with_told o.set o.destination o.status t)

-- ---- What a route management message from an adjacent point asks for (Q.704 §13.2 to §13.5).

-- a status that is reported for a route, which has this one if it is there
abbrev pub heard_of : Option RouteStatus → RouteStatus → Heard
heard_of None status = Ignored
heard_of (Some old) status = if is_same old status then Unchanged else Changed

-- a transfer-prohibited, -restricted or -allowed message from the adjacent point of a set about a destination says
-- nothing of that point itself, nor of a destination that the set doesn't lead to
abbrev pub heard : Facts → ToldTable → (set destination : ℕ) → RouteStatus → Heard
heard f t set destination status =
    if is_own_point t set destination then Ignored else heard_of (status_of f destination set) status

-- the status that a test asks about
abbrev pub tested : RouteTest → RouteStatus
tested test.Prohibited = Prohibited
tested test.Restricted = Restricted

-- what a test from the adjacent point of a set about a destination is answered with: what that point is to be told,
-- unless the test asks about just this; nothing about that point itself
abbrev pub answer_to_test : Facts → ToldTable → (set destination : ℕ) → RouteTest → Option RouteStatus
answer_to_test f t set destination test =
    if is_own_point t set destination || is_same (status_to_advertise f set destination) (tested test)
    then None
    else Some (status_to_advertise f set destination)
