-- The first code that is free.
use Rattle.changeback.proofs.Basics.{◌≡◌, ℕ, ◌<◌, Bool, true, false, not, cond, List, length, get_or, nat_lt, ap, sym, ◌∙◌, arith, Option, Some, None, position, position_or_len, nat_tests, position_or_len_is, position-Some, codes_of, awaited_codes_are_not_free}

placed : (p : Bool → Bool) (xs : List Bool) (i : ℕ) (b : Bool) → position_or_len p xs ≡ i → nat_lt i (length xs) ≡ b → position p xs ≡ cond b (Some i) None
placed p xs i b e t =
    ap (λ (n : ℕ). cond {A = Option ℕ} (nat_lt n (length xs)) (Some n) None) e
    ∙ ap (λ (b : Bool). cond {A = Option ℕ} b (Some i) None) t

pub found : (xs : List Bool) (i : ℕ) → ((k : ℕ) → k < i → not (get_or xs k false) ≡ false) → i < length xs → get_or xs i false ≡ false → position not xs ≡ Some i
found xs i before l here =
    placed not xs i true (position_or_len_is not xs i false (omega (arith, l)) before (λ _. ap not here)) (grind (arith, nat_tests, l))

pub not_found : (xs : List Bool) (i : ℕ) → ((k : ℕ) → k < i → not (get_or xs k false) ≡ false) → i ≡ length xs → position not xs ≡ None
not_found xs i before e =
    placed not xs i false (position_or_len_is not xs i false (omega (arith, e)) before (λ l. absurd (omega (arith, e, l)))) (grind (arith, nat_tests, e))

-- what is found isn't awaited
apart : false ≡ true → ⊥
apart e = absurd cc

pub not_awaited : awaited_codes_are_not_free
not_awaited t set code awaited free =
    let at : not (get_or (codes_of t set) code false) ≡ true = (position-Some not (codes_of t set) code false free).1 in
    apart (sym (ap not awaited) ∙ at)
