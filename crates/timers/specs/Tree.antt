-- A tree of moments, in one list: the node i has the nodes 2 * i and 2 * i + 1 below it, and holds a bound, such that
-- no moment below it is less. The node 1 is the top; the leaves are in the second half of the list.
use Rattle.std.specs.Prelude.{◌≢◌, ℕ, zero, suc, ◌+◌, ◌-◌, ◌*◌, ◌≤◌, ◌<◌, nat_lt, nat_le, min, Bool, if◌then◌else◌}
use Rattle.std.specs.Prelude.{Option, None, Some, List, get_or}
use Rattle.std.specs.Option.{option_or}

-- the moment of a timer that doesn't run
abbrev pub never : ℕ
never = 4294967295

-- the ticks that are left until a moment
abbrev pub left_at : (clock moment : ℕ) → Option ℕ
left_at clock moment = if nat_lt moment never then Some (moment - clock) else None

abbrev pub has_come : (clock moment : ℕ) → Bool
has_come clock moment = nat_le moment clock

-- a moment, counted from now on
abbrev pub rebased : (clock moment : ℕ) → ℕ
rebased clock moment = if nat_lt moment never then moment - clock else moment

-- the moment that a node holds
abbrev pub at : List ℕ → ℕ → ℕ
at nodes node = get_or nodes node never

-- the lesser moment of the two nodes below a node
abbrev pub least : List ℕ → ℕ → ℕ
least nodes node = min (at nodes (2 * node)) (at nodes (2 * node + 1))

-- no node above this many leaves holds more than the two below it
pub record IsBounded (leaves : ℕ) (nodes : List ℕ) : Type 0 where
  pub holds : (node : ℕ) → 1 ≤ node → node < leaves → at nodes node ≤ least nodes node

-- but one, just above what is being lowered: it may hold more than that moment
pub record IsBoundedBut (leaves but moment : ℕ) (nodes : List ℕ) : Type 0 where
  pub others : (node : ℕ) → node ≢ but → 1 ≤ node → node < leaves → at nodes node ≤ least nodes node
  pub last : 1 ≤ but → but < leaves → min (at nodes but) moment ≤ least nodes but

-- the node this many levels above the leaves, and each below it, holds no more than the two below it
abbrev pub AreBounded : (levels node : ℕ) → List ℕ → Type 0
AreBounded zero node nodes = Unit {0}
AreBounded (suc levels) node nodes =
    (at nodes node ≤ least nodes node) × AreBounded levels (2 * node) nodes × AreBounded levels (2 * node + 1) nodes

-- the first leaf that has come, this many levels below a node
abbrev pub first_below : (clock : ℕ) (nodes : List ℕ) (levels node : ℕ) → Option ℕ
first_below clock nodes zero node = if has_come clock (at nodes node) then Some node else None
first_below clock nodes (suc levels) node =
    option_or (first_below clock nodes levels (2 * node)) (first_below clock nodes levels (2 * node + 1))

-- how many leaves have come, this many levels below a node
abbrev pub count_below : (clock : ℕ) (nodes : List ℕ) (levels node : ℕ) → ℕ
count_below clock nodes zero node = if has_come clock (at nodes node) then 1 else 0
count_below clock nodes (suc levels) node =
    count_below clock nodes levels (2 * node) + count_below clock nodes levels (2 * node + 1)
