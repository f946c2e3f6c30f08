-- Cells of a row, by number: which of them each list has.
use Rattle.std.specs.Prelude.{◌≡◌, ℕ, ◌+◌, List, [], length, nat_lt, nat_eq, count_by, sum_by, if◌then◌else◌}
use Rattle.std.specs.Prelude.{slice_index_or}

-- one ring of them
abbrev pub ring_at : List (List ℕ) → ℕ → List ℕ
ring_at rings ring = slice_index_or rings ring []

-- how often a list has a number
abbrev pub uses : ℕ → List ℕ → ℕ
uses n numbers = count_by (λ k. nat_eq k n) numbers

-- each number below the total occurs once, in a ring or among the free ones, and no other number does
pub record SharesOut (free : List ℕ) (rings : List (List ℕ)) (total : ℕ) : Type 0 where
  pub once : (n : ℕ) → uses n free + sum_by (uses n) rings ≡ (if nat_lt n total then 1 else 0)
  pub all : length free + sum_by length rings ≡ total
