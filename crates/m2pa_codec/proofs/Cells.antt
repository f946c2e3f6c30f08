-- A text of at least sixteen octets, octet by octet.
use Rattle.std.proofs.Common.{◌≡◌, ℕ, ◌≤◌, List, ◌∷◌, length, drop, refl, arith}
use Rattle.std.specs.Prelude.{slice_index}

pub cells : (t : List ℕ) → 16 ≤ length t
    → t ≡ slice_index t 0 ∷ slice_index t 1 ∷ slice_index t 2 ∷ slice_index t 3
    ∷ slice_index t 4 ∷ slice_index t 5 ∷ slice_index t 6 ∷ slice_index t 7
    ∷ slice_index t 8 ∷ slice_index t 9 ∷ slice_index t 10 ∷ slice_index t 11
    ∷ slice_index t 12 ∷ slice_index t 13 ∷ slice_index t 14 ∷ slice_index t 15 ∷ drop 16 t
cells (a ∷ b ∷ c ∷ d ∷ e ∷ f ∷ g ∷ h ∷ i ∷ j ∷ k ∷ l ∷ m ∷ n ∷ o ∷ p ∷ t) _ = refl
cells y x = absurd (omega (arith, x))
