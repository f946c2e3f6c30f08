-- The first of a list that passes a test.
use Rattle.std.proofs.Common.{◌≡◌, ◌≤◌, ℕ, Bool, true, false, List, length, Some, None, nat_lt, refl, ap, sym, ◌∙◌, arith}
use Rattle.std.specs.List.{position_or_len}
use Rattle.std.specs.Prelude.{if◌then◌else◌, find, position, slice_get, slice_index_or}
use Rattle.std.proofs.lemmas.Bool.Decides.{nat_tests}
use Rattle.std.proofs.lemmas.List.Folds.{find_at}
use Rattle.std.proofs.lemmas.List.Quantifiers.{position-Some}
use Rattle.std.proofs.lemmas.Option.{slice_get-get_or, slice_get_past}

first-so : (b : Bool) (m i : ℕ) → (if b then Some m else None) ≡ Some i → i ≡ m
first-so true m i e = cc
first-so false m i e = absurd cc

module _ {X : Type 0} (p : X → Bool) (xs : List X) where
  pub is-first : (i : ℕ) → position p xs ≡ Some i → i ≡ position_or_len p xs
  is-first i e = first-so (nat_lt (position_or_len p xs) (length xs)) (position_or_len p xs) i e

  pub found-at : (i : ℕ) (d : X) → position p xs ≡ Some i → find p xs ≡ Some (slice_index_or xs i d)
  found-at i d e =
      find_at p xs ∙ ap (slice_get xs) (sym (is-first i e)) ∙ slice_get-get_or xs i d (position-Some p xs i d e).0

  past : (b : Bool) (m count : ℕ) → nat_lt m count ≡ b → (if b then Some m else None) ≡ None → count ≤ m
  past true m count e f = absurd cc
  past false m count e f = grind (arith, nat_tests, e)

  pub found-none : position p xs ≡ None → find p xs ≡ None
  found-none e =
      find_at p xs
      ∙ slice_get_past xs (position_or_len p xs) (past (nat_lt (position_or_len p xs) (length xs)) (position_or_len p xs) (length xs) refl e)
