-- What holds of each element of a list, and of two numbers, each below its bound.
use Rattle.timers.proofs.Basics.{◌≡◌, ◌&&◌, ◌<◌, ◌≤◌, ◌+◌, ◌*◌, mul-le-mul_right, ℕ, nat_lt, true, List, [], ◌∷◌, ◌++◌, AllByRecursion, arith, nat_tests}

module _ {X : Type 0} (P : X → Type 0) where
  pub all-append : (xs ys : List X) → AllByRecursion P xs → AllByRecursion P ys → AllByRecursion P (xs ++ ys)
  all-append [] ys h k = k
  all-append (x ∷ xs) ys h k = (h.0, all-append xs ys h.1 k)

pub all-weaker : {X : Type 0} (P Q : X → Type 0) → ((x : X) → P x → Q x) → (xs : List X) → AllByRecursion P xs → AllByRecursion Q xs
all-weaker P Q f [] h = tt
all-weaker P Q f (x ∷ xs) h = (f x h.0, all-weaker P Q f xs h.1)

pub two_below : (a b c d : ℕ) → (nat_lt a b && nat_lt c d) ≡ true → (a < b) × (c < d)
two_below a b c d h = (grind (arith, nat_tests, h), grind (arith, nat_tests, h))

pub two_under : (a b c d : ℕ) → a < b → c < d → (nat_lt a b && nat_lt c d) ≡ true
two_under a b c d h k = grind (arith, nat_tests)

pub in_table : (r c rows columns : ℕ) → r < rows → c < columns → r * columns + c < rows * columns
in_table r c rows columns h k =
    let whole : r + 1 ≤ rows = omega arith in
    omega (arith, mul-le-mul_right columns whole)
