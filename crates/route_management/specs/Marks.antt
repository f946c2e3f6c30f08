-- Numbers that are marked, and the next marked one.
use Rattle.std.specs.Prelude.{◌≡◌, ◌≤◌, ◌<◌, ℕ, Bool, true, false, List, slice_index_or}

-- whether a number is marked
abbrev pub is_marked : List Bool → ℕ → Bool
is_marked marks number = slice_index_or marks number false

-- no number from one on is
abbrev pub NoneFrom : List Bool → (from : ℕ) → Type 0
NoneFrom marks from = (number : ℕ) → from ≤ number → is_marked marks number ≡ false

-- no number from one up to another is
abbrev pub NoneBetween : List Bool → (from end : ℕ) → Type 0
NoneBetween marks from end = (number : ℕ) → from ≤ number → number < end → is_marked marks number ≡ false

-- the first number from one on that is marked
pub record IsFirstFrom (marks : List Bool) (from number : ℕ) : Type 0 where
  pub from_there : from ≤ number
  pub marked : is_marked marks number ≡ true
  pub first : NoneBetween marks from number
