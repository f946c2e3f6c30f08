-- The names of timers (Q.703 §12.3, Q.704 §16.8, Q.707 §5.5): their order, and which of them a node has.
use Rattle.std.specs.Prelude.{◌≡◌, ℕ, ◌+◌, ◌*◌, ◌==◌, nat_lt, Bool, true, false, ◌&&◌, ◌||◌, List, [], ◌∷◌, map, ◌-◌, max, if◌then◌else◌, Option, None, Some, length, filter, find, is_some}
use Rattle.std.specs.List.{AllByRecursion, flat_map, range_with_len}
use Rattle.signalling_types.specs.declared.limits.TheConstants.Limits.{CHANGEBACK_CODES}
use Rattle.timers.specs.declared.name.TimerName.{TimerName}
use Rattle.timers.specs.declared.name.TimerName.TheVariants.{L1, L2, L3, L4, L6, L7, T1, T2, T3, T4, T6, T8, T10}
use Rattle.timers.specs.declared.name.TimerName.TheVariants.{Slt1, Slt2}
use Rattle.timers.specs.declared.name.RouteTimer.{RouteTimer}
use Rattle.timers.specs.declared.name.RouteTimer.TheVariants as route
use Rattle.timers.specs.declared.name.NodeCounts.{NodeCounts}
use Rattle.std.specs.Option.{option_map_or}
use Rattle.std.proofs.Common.{ap}

-- ---- name order: by kind, then in the order of the settings

-- what the order goes by: the kind, then the place in the order of the settings
pub record Key : Type 0 where
  pub kind : ℕ
  pub row : ℕ
  pub column : ℕ

abbrev pub key : (kind row column : ℕ) → Key
key kind row column = record { kind = kind; row = row; column = column }

abbrev pub key_of : TimerName → Key
key_of (L1 link) = key 0 link 0
key_of (L2 link) = key 1 link 0
key_of (L3 link) = key 2 link 0
key_of (L4 link) = key 3 link 0
key_of (L6 link) = key 4 link 0
key_of (L7 link) = key 5 link 0
key_of (T1 link) = key 6 link 0
key_of (T2 link) = key 7 link 0
key_of (T3 link) = key 8 link 0
key_of (T4 set code) = key 9 set code
key_of (T6 destination) = key 10 destination 0
key_of (T8 set destination) = key 11 set destination
key_of (T10 set destination) = key 12 set destination
key_of (Slt1 link) = key 13 link 0
key_of (Slt2 link) = key 14 link 0

abbrev pub is_key_before : Key → Key → Bool
is_key_before x y =
    nat_lt x.kind y.kind
    || (x.kind == y.kind && (nat_lt x.row y.row || (x.row == y.row && nat_lt x.column y.column)))

-- whether a name comes before another
abbrev pub is_before : TimerName → TimerName → Bool
is_before x y = is_key_before (key_of x) (key_of y)

abbrev pub is_same_key : Key → Key → Bool
is_same_key x y = x.kind == y.kind && (x.row == y.row && x.column == y.column)

-- whether two names are one
abbrev pub is_same : TimerName → TimerName → Bool
is_same x y = is_same_key (key_of x) (key_of y)

-- ---- the names of a node

abbrev pub has_name : NodeCounts → TimerName → Bool
has_name n (L1 link) = nat_lt link n.links
has_name n (L2 link) = nat_lt link n.links
has_name n (L3 link) = nat_lt link n.links
has_name n (L4 link) = nat_lt link n.links
has_name n (L6 link) = nat_lt link n.links
has_name n (L7 link) = nat_lt link n.links
has_name n (T1 link) = nat_lt link n.links
has_name n (T2 link) = nat_lt link n.links
has_name n (T3 link) = nat_lt link n.links
has_name n (T4 set code) = nat_lt set n.sets && nat_lt code CHANGEBACK_CODES
has_name n (T6 destination) = nat_lt destination n.destinations
has_name n (T8 set destination) = nat_lt set n.sets && nat_lt destination n.destinations
has_name n (T10 set destination) = nat_lt set n.sets && nat_lt destination n.destinations
has_name n (Slt1 link) = nat_lt link n.links
has_name n (Slt2 link) = nat_lt link n.links

-- how many names those are: eleven for each link, one for each set and changeback code, one for each
-- destination, and two for each set and destination
abbrev pub count_of : NodeCounts → ℕ
count_of n = 11 * n.links + CHANGEBACK_CODES * n.sets + n.destinations + 2 * (n.sets * n.destinations)

-- this many names of one kind
abbrev pub each : (ℕ → TimerName) → ℕ → List TimerName
each name count = map name (range_with_len 0 count)

-- those of this many rows, and of this many columns within each
abbrev pub each_in_rows : (ℕ → ℕ → TimerName) → (rows columns : ℕ) → List TimerName
each_in_rows name rows columns = flat_map (λ row. each (name row) columns) (range_with_len 0 rows)

abbrev pub names_by_kind : NodeCounts → List (List TimerName)
names_by_kind n =
    each L1 n.links
    ∷ each L2 n.links
    ∷ each L3 n.links
    ∷ each L4 n.links
    ∷ each L6 n.links
    ∷ each L7 n.links
    ∷ each T1 n.links
    ∷ each T2 n.links
    ∷ each T3 n.links
    ∷ each_in_rows T4 n.sets CHANGEBACK_CODES
    ∷ each T6 n.destinations
    ∷ each_in_rows T8 n.sets n.destinations
    ∷ each_in_rows T10 n.sets n.destinations
    ∷ each Slt1 n.links
    ∷ each Slt2 n.links
    ∷ []

-- all names that a node has, in order
unfoldable pub names_of : NodeCounts → List TimerName
names_of n = flat_map (λ names. names) (names_by_kind n)

-- whether a name is this timer of this set, for whatever destination
abbrev pub is_of_set : RouteTimer → ℕ → TimerName → Bool
is_of_set route.T8 set (T8 s destination) = s == set
is_of_set route.T10 set (T10 s destination) = s == set
is_of_set timer set name = false

-- names that rise: each occurs once
abbrev pub AreInOrder : List TimerName → Type 0
AreInOrder [] = Unit {0}
AreInOrder (name ∷ names) = AllByRecursion (λ later. is_before name later ≡ true) names × AreInOrder names

-- ---- The timers of a node: a finite map from names to the ticks that are left.

pub record Running : Type 0 where
  -- how many links, sets and destinations there are, which says what names exist
  pub counts : NodeCounts
  -- the ticks that are left to a timer, 0 if it is due; nothing if it doesn't run
  pub left : TimerName → Option ℕ
  -- a name that doesn't exist has nothing
  pub only : (name : TimerName) → has_name counts name ≡ false → left name ≡ None

-- these ticks are left to the names that exist; any other is ignored
abbrev pub running_with : NodeCounts → (TimerName → Option ℕ) → Running
running_with n left = record {
  counts = n;
  left = λ name. if has_name n name then left name else None;
  only = λ name h. ap (λ (has : Bool). if has then left name else None) h;
}

-- no timer runs
abbrev pub none_running : NodeCounts → Running
none_running n = running_with n (λ name. None)

-- whether a timer runs, even if it is due and not handed out yet
abbrev pub is_running : TimerName → Running → Bool
is_running name r = is_some (r.left name)

-- a timer runs out after this many ticks, at the next one if that is 0, whatever it was set to before; a name that
-- doesn't exist is ignored
unfoldable pub set_timer : TimerName → ℕ → Running → Running
set_timer name ticks r =
    running_with r.counts (λ other. if is_same name other then Some (max 1 ticks) else r.left other)

-- a timer that runs goes on, and another is set
unfoldable pub start_unless_running : TimerName → ℕ → Running → Running
start_unless_running name ticks r = if is_running name r then r else set_timer name ticks r

-- a timer is stopped
unfoldable pub clear_timer : TimerName → Running → Running
clear_timer name r = running_with r.counts (λ other. if is_same name other then None else r.left other)

-- a timer of a set is stopped, for every destination
unfoldable pub clear_set : RouteTimer → ℕ → Running → Running
clear_set timer set r = running_with r.counts (λ other. if is_of_set timer set other then None else r.left other)

-- one tick less
abbrev pub one_less : Option ℕ → Option ℕ
one_less None = None
one_less (Some left) = Some (left - 1)

-- a tick lowers each timer
abbrev pub ticked : Running → Running
ticked r = running_with r.counts (λ name. one_less (r.left name))

abbrev pub no_tick_left : Option ℕ → Bool
no_tick_left None = false
no_tick_left (Some left) = left == 0

-- whether a timer is due: it runs, and no tick is left
abbrev pub is_due : Running → TimerName → Bool
is_due r name = no_tick_left (r.left name)

-- the first timer that is due, in the order of names
unfoldable pub due_name : Running → Option TimerName
due_name r = find (is_due r) (names_of r.counts)

-- it is handed out, and runs no longer
unfoldable pub after_due : Running → Running
after_due r = option_map_or (λ name. clear_timer name r) (due_name r) r

-- how many timers are due
unfoldable pub due_count : Running → ℕ
due_count r = length (filter (is_due r) (names_of r.counts))
