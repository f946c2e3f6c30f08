-- How many changeovers aren't complete, and await no answer, is counted.
use Rattle.std.proofs.Common.{◌≡◌, ℕ, ◌+◌, Bool, true, false, List, [], ◌∷◌, cond, refl, ap, ◌∙◌, arith, ◌||◌, nat_lt, count_by}
use Rattle.std.specs.List.{list_any}
use Rattle.std.proofs.Math.Nat.{zero-add}
use Rattle.std.proofs.lemmas.Bool.Decides.{nat_tests}
use Rattle.std.proofs.lemmas.List.Sums.{sum_by-cons}
use Rattle.changeover.specs.Changeover.{Standing, is_unasked}

-- what one link adds to the count
abbrev pub one_if_unasked : Standing → ℕ
one_if_unasked s = cond (is_unasked s) 1 0

any-step : (b : Bool) (n : ℕ) (any : Bool) → nat_lt 0 n ≡ any → nat_lt 0 (cond b 1 0 + n) ≡ (b || any)
any-step true n any e = grind (arith, nat_tests)
any-step false n any e = ap (nat_lt 0) (zero-add n) ∙ e

-- there is one where the count is above 0
pub any-unasked : (xs : List Standing) → nat_lt 0 (count_by is_unasked xs) ≡ list_any is_unasked xs
any-unasked [] = refl
any-unasked (s ∷ xs) =
    ap (nat_lt 0) (sum_by-cons one_if_unasked s xs) ∙ any-step (is_unasked s) (count_by is_unasked xs) _ (any-unasked xs)
