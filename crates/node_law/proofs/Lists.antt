-- Lists and functions of numbers that hold the same.
use Rattle.std.proofs.Common.{◌≡◌, ◌≢◌, ◌<◌, ◌≤◌, ℕ, zero, suc, List, [], ◌∷◌, length, Some, None, ap, sym, subst, ◌∙◌, arith}
use Rattle.std.proofs.Math.Logic.{⊎_elim}
use Rattle.std.proofs.lemmas.Bool.{cases_eq}
use Rattle.std.proofs.lemmas.List.{get_or-set_same, get_or-set_other, get_or_past}
use Rattle.std.specs.Prelude.{slice_get, slice_set, slice_index_or}
use Rattle.node_moves.specs.Networks.{updated}
use Rattle.node_moves.proofs.Flights.{updated-here, updated-other}

-- the same is set in a list and in a function
pub set-alike : {A : Type 0} (xs : List A) (f : ℕ → A) (k : ℕ) (x d : A) → k < length xs → ((j : ℕ) → slice_index_or xs j d ≡ f j) → (j : ℕ) → slice_index_or (slice_set xs k x) j d ≡ updated f k x j
set-alike {A} xs f k x d inside same j =
    ⊎_elim
    (λ (here : j ≡ k).
    subst (λ (i : ℕ). slice_index_or (slice_set xs k x) i d ≡ updated f k x i) (sym here) (get_or-set_same xs k x d inside ∙ sym (updated-here f k x)))
    (λ (away : j ≢ k). get_or-set_other xs k j x d away ∙ same j ∙ sym (updated-other f k x j away))
    (cases_eq j k)

-- where a list of lists has a first text, there is a place
pub first-inside : {A : Type 0} (xs : List (List A)) (k : ℕ) (x : A) → slice_get (slice_index_or xs k []) 0 ≡ Some x → k < length xs
first-inside [] k x e = absurd cc
first-inside (y ∷ xs) zero x e = omega arith
first-inside (y ∷ xs) (suc k) x e = (let less : k < length xs = first-inside xs k x e in omega (arith, less))

-- and beyond the places there is none
pub none-past : {A : Type 0} (xs : List (List A)) (k : ℕ) → length xs ≤ k → slice_get (slice_index_or xs k []) 0 ≡ None
none-past xs k past = ap (λ ys. slice_get ys 0) (get_or_past xs k [] past)
