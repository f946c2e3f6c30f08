-- What holds of every element of a list holds of every one of some of them.
use Rattle.pair_rules.proofs.Basics.{ℕ, Bool, true, false, List, [], ◌∷◌, zero, suc, drop, filter, if◌then◌else◌}
use Rattle.pair_rules.proofs.Good.{Each}

-- ---- each of some of them

pub each-drop : {A : Type 0} (P : A → Type 0) (n : ℕ) (xs : List A) → Each P xs → Each P (drop n xs)
each-drop P zero xs e = e
each-drop P (suc n) [] e = tt
each-drop P (suc n) (x ∷ xs) e = each-drop P n xs e.1

pub each-filter : {A : Type 0} (P : A → Type 0) (p : A → Bool) (xs : List A) → Each P xs → Each P (filter p xs)
each-filter P p [] e = tt
each-filter P p (x ∷ xs) e = by (p x) (each-filter P p xs e.1)
  where
    by : (b : Bool) → Each P (filter p xs) → Each P (if b then x ∷ filter p xs else filter p xs)
    by true rest = (e.0, rest)
    by false rest = rest
