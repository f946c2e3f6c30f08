-- Two elements of a list, each in its part of the list, of which one is written.
use Rattle.std.proofs.Common.{◌≡◌, ◌<◌, ◌+◌, ℕ, zero, suc, List, [], ◌∷◌, ◌++◌, length, Some, drop, take, refl, ap, sym, ◌∙◌, arith}
use Rattle.std.specs.Prelude.{slice_get, slice_index_or, slice_set}
use Rattle.std.proofs.lemmas.List.{get_or-drop, get_or-take}
use Rattle.std.proofs.lemmas.Option.{slice_get-get_or}

none-more : (n : ℕ) → n + 0 ≡ n
none-more n = omega arith

module _ {X : Type 0} where
  both-parts : (xs : List X) (j : ℕ) → take j xs ++ drop j xs ≡ xs
  both-parts [] zero = refl
  both-parts [] (suc j) = refl
  both-parts (x ∷ xs) zero = refl
  both-parts (x ∷ xs) (suc j) = ap (λ (ys : List X). x ∷ ys) (both-parts xs j)

  pub set-front : (xs : List X) (i j : ℕ) (a : X) → i < j → slice_set (take j xs) i a ++ drop j xs ≡ slice_set xs i a
  set-front [] i zero a l = absurd (omega (arith, l))
  set-front [] i (suc j) a l = refl
  set-front (x ∷ xs) i zero a l = absurd (omega (arith, l))
  set-front (x ∷ xs) zero (suc j) a l = ap (λ (ys : List X). a ∷ ys) (both-parts xs j)
  set-front (x ∷ xs) (suc i) (suc j) a l = ap (λ (ys : List X). x ∷ ys) (set-front xs i j a (omega (arith, l)))

  pub set-back : (xs : List X) (j : ℕ) (b : X) → j < length xs → take j xs ++ slice_set (drop j xs) 0 b ≡ slice_set xs j b
  set-back [] j b l = absurd (omega (arith, l))
  set-back (x ∷ xs) zero b l = refl
  set-back (x ∷ xs) (suc j) b l = ap (λ (ys : List X). x ∷ ys) (set-back xs j b (omega (arith, l)))

  -- an element of a part is that of the list
  pub got-front : (xs : List X) (i mid : ℕ) (front : List X) (d : X) → front ≡ take mid xs → i < mid → i < length xs → slice_get xs i ≡ Some (slice_index_or front i d)
  got-front xs i mid front d e l m =
      slice_get-get_or xs i d m ∙ ap (λ (y : X). Some y) (sym (ap (λ (ys : List X). slice_index_or ys i d) e ∙ get_or-take mid xs i d l))

  pub got-back : (xs : List X) (mid : ℕ) (back : List X) (d : X) → back ≡ drop mid xs → mid < length xs → slice_get xs mid ≡ Some (slice_index_or back 0 d)
  got-back xs mid back d e l =
      slice_get-get_or xs mid d l
      ∙ ap (λ (y : X). Some y) (sym (ap (λ (ys : List X). slice_index_or ys 0 d) e ∙ get_or-drop mid xs 0 d ∙ ap (λ (i : ℕ). slice_index_or xs i d) (none-more mid)))
