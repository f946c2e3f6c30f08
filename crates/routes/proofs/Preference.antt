-- The order in which links are tried, one link at a time.
use Rattle.routes.proofs.Basics.{◌≡◌, ℕ, zero, suc, ◌<◌, ◌/◌, ◌%◌, List, [], ◌∷◌, length, get_or, refl, arith, common_steps, length-remove, IsPermutation-refl, IsPermutation-trans, IsPermutation-cons, IsPermutation-remove, remove, IsPermutation, order_of, preference}

-- each of n links is tried once
pub order-permutation : {A : Type 0} (n selection : ℕ) (links : List A) → length links ≡ n → IsPermutation links (order_of n selection links)
order-permutation zero selection [] e = IsPermutation-refl []
order-permutation zero selection (first ∷ rest) e = absurd (omega (arith, e))
order-permutation (suc n) selection [] e = absurd (omega (arith, e))
order-permutation {A = A} (suc n) selection (first ∷ rest) e =
    let links : List A = first ∷ rest in
    let at = selection % suc n in
    let within : at < length links = omega (arith, e) in
    let x = get_or links at first in
    let same : x ≡ get_or links at x = grind (arith, common_steps, within) in
    let left : length (remove links at) ≡ n = omega (arith, length-remove links at within, e) in
    let taken = IsPermutation-remove links at x within same in
    IsPermutation-trans links (x ∷ remove links at) _ taken (IsPermutation-cons x (remove links at) _ (order-permutation n (selection / suc n) (remove links at) left))

pub preference_permutes : {A : Type 0} (selection : ℕ) (links : List A) → IsPermutation links (preference selection links)
preference_permutes selection links = order-permutation (length links) selection links refl
