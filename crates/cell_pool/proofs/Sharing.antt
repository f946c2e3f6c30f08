-- Each number occurs once: this stays so where a free number goes to the end of a ring, and where the first number of a
-- ring goes to the free ones.
use Rattle.cell_pool.proofs.Basics.{◌≡◌, ℕ, ◌+◌, ◌<◌, ◌≤◌, Bool, true, false, cond, List, [], ◌∷◌, ◌++◌, length, get_or, refl, ap, arith, nat_lt, nat_eq, sum_by, eq-eqb, ltb-true, nat_tests, sum_by_push, sum_by-cons, get_or-le-sum_by, uses, ring_at, SharesOut}

-- what one number adds to the uses of another
abbrev pub use_of : ℕ → ℕ → ℕ
use_of n k = cond (nat_eq k n) 1 0

pub uses-push : (n k : ℕ) (xs : List ℕ) → uses n (xs ++ k ∷ []) ≡ uses n xs + use_of n k
uses-push n k xs = sum_by_push (use_of n) xs k

pub uses-cons : (n k : ℕ) (xs : List ℕ) → uses n (k ∷ xs) ≡ use_of n k + uses n xs
uses-cons n k xs = sum_by-cons (use_of n) k xs

pub use_of-itself : (k : ℕ) → use_of k k ≡ 1
use_of-itself k = ap (λ b. cond b 1 0) (eq-eqb k k refl)

-- a number that stands in a list is used there
pub uses-get_or : (xs : List ℕ) (i : ℕ) → i < length xs → 1 ≤ uses (get_or xs i 0) xs
uses-get_or xs i h = omega (arith, use_of-itself (get_or xs i 0), get_or-le-sum_by (use_of (get_or xs i 0)) xs i 0 h)

-- what is used at all is below the total, and used once
pub once_within : (b : Bool) (n : ℕ) → 1 ≤ n → n ≡ cond b 1 0 → b ≡ true
once_within true n h e = refl
once_within false n h e = absurd (omega arith)

pub shared-within : (free : List ℕ) (rings : List (List ℕ)) (total k : ℕ) → SharesOut free rings total → 1 ≤ uses k free + sum_by (uses k) rings → k < total
shared-within free rings total k s h = ltb-true k total (once_within (nat_lt k total) _ h (s.once k))

-- a number of a ring is below the total
pub in_ring-within : (free : List ℕ) (rings : List (List ℕ)) (total ring i : ℕ) → SharesOut free rings total → ring < length rings → i < length (ring_at rings ring) → get_or (ring_at rings ring) i 0 < total
in_ring-within free rings total ring i s h j =
    let k : ℕ = get_or (ring_at rings ring) i 0 in
    shared-within free rings total k s (omega (arith, uses-get_or (ring_at rings ring) i j, get_or-le-sum_by (uses k) rings ring [] h))

-- at first all numbers are free
abbrev pub below : ℕ → ℕ → ℕ
below n a = cond (nat_lt n a) 1 0

pub below-next : (n a : ℕ) → below n (a + 1) ≡ below n a + use_of n a
below-next n a = grind (arith, nat_tests)

pub below-none : (n : ℕ) → below n 0 ≡ 0
below-none n = grind (arith, nat_tests)
