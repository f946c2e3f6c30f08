-- How the ticks that are left are kept: as moments, in a tree.
use Rattle.std.specs.Prelude.{◌≡◌, ℕ, ◌+◌, ◌*◌, ◌^◌, ◌≤◌, Option, List, length, map, take, drop, get_or}
use Rattle.timers.specs.declared.moments.Moments.TheInside.{Inside}
use Rattle.timers.specs.Tree.{never, left_at, IsBounded}

-- the ticks that are left at this many places, as the leaves say
abbrev pub left_in : (clock places leaves : ℕ) → List ℕ → List (Option ℕ)
left_in clock places leaves nodes = map (left_at clock) (take places (drop leaves nodes))

abbrev pub ticks_in : Inside → List (Option ℕ)
ticks_in s = left_in s.clock s.places s.leaves s.nodes.items

-- a tree of this many leaves, of which the first are places
pub record IsTree (clock places levels leaves : ℕ) (nodes : List ℕ) : Type 0 where
  -- a timer of the most ticks runs out before never
  pub early : clock + 65536 ≤ never
  pub halves : leaves ≡ 2 ^ levels
  pub size : length nodes ≡ 2 * leaves
  pub room : places ≤ leaves
  pub bounded : IsBounded leaves nodes
  -- at the other leaves nothing runs
  pub idle : (leaf : ℕ) → places ≤ leaf → get_or (drop leaves nodes) leaf never ≡ never

pub record AreMoments (s : Inside) : Type 0 where
  pub tree : IsTree s.clock s.places s.levels s.leaves s.nodes.items
  -- the leaves can be counted
  pub few : s.levels ≤ 48
