-- Cells that are in lists, and cells that are free again.
use Rattle.std.specs.Prelude.{◌≡◌, ℕ, ◌+◌, ◌≤◌, List, [], ◌∷◌, length, nat_eq, nat_lt, if◌then◌else◌}

-- the cells of each list and those that are free again, in order; how many cells were ever used, and how many may be
pub record Linked : Type 0 where
  pub free : List ℕ
  pub rings : List (List ℕ)
  pub used : ℕ
  pub total : ℕ

-- if no cell is free again, one that was never used is the free one
abbrev pub reserved : Linked → Linked
reserved l =
    if nat_eq (length l.free) 0
    then record l { free = l.used ∷ []; used = l.used + 1 }
    else l

-- a cell was taken: one that was used before, or the next one
pub record IsReached (before cell after : ℕ) : Type 0 where
  pub within : cell ≤ before
  pub reached : after ≡ (if nat_lt cell before then before else before + 1)
