-- How marks are found: a block says whether some number of it may be marked.
use Rattle.std.specs.Prelude.{◌≡◌, ◌≤◌, ◌<◌, ◌+◌, ◌*◌, ℕ, false, slice_index_or, vec_len}
use Rattle.route_management.specs.Marks.{is_marked}
use Rattle.route_management.specs.declared.marks.TheConstants.{BLOCK}
use Rattle.route_management.specs.declared.marks.Marks.TheInside.{Inside}

-- each number has its block, and at most one block has none. If a block says that none of its numbers is marked, none
-- is, and if that is said of all numbers, none of all is
pub record HasBlocks (s : Inside) : Type 0 where
  pub enough : vec_len s.marks < BLOCK * vec_len s.blocks
  pub few : BLOCK * vec_len s.blocks ≤ vec_len s.marks + BLOCK
  pub unmarked : (block number : ℕ) → slice_index_or s.blocks.items block false ≡ false
      → BLOCK * block ≤ number → number < BLOCK * block + BLOCK → is_marked s.marks.items number ≡ false
  pub none : s.any ≡ false → (number : ℕ) → is_marked s.marks.items number ≡ false
