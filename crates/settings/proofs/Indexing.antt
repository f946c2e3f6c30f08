-- One more point among those found by their codes.
use Rattle.settings.proofs.Basics.{Bool, List, None, Option, Some, [], ap, arith, cond, eqb, false, get_or, length, nat_eq, nat_lt, not, position, refl, replicate, slice_get, slice_set, suc, sym, true, zero, ℕ, ◌+◌, ◌++◌, ◌<◌, ◌^◌, ◌∙◌, ◌∷◌, ◌≡◌, ◌≢◌, ◌≤◌, common_steps, nat_tests, prefix_len-le-length, slice_get-get_or, list_any, position_or_len, is_some}
use Rattle.std.proofs.lemmas.List.Folds.{position_or_len_push}
use Rattle.settings.specs.Indexed.{Finds}
use Rattle.settings.proofs.Entries.{some_place}

at-end : (l n m : ℕ) → l ≤ n → is_some (cond (nat_lt l n) (Some l) None) ≡ false → m ≡ cond (eqb l n) (n + 0) l → cond (nat_lt m (n + 1)) (Some m) None ≡ Some n
at-end l n m le none e = grind (arith, nat_tests)

before-end : (l n m : ℕ) → l ≤ n → m ≡ cond (eqb l n) (n + 1) l → cond (nat_lt m (n + 1)) (Some m) None ≡ cond (nat_lt l n) (Some l) None
before-end l n m le e = grind (arith, nat_tests)

module _ {A : Type 0} (p : A → Bool) (xs : List A) (y : A) where
  -- one that passes, after others that don't
  pub found-behind : list_any p xs ≡ false → p y ≡ true → position p (xs ++ y ∷ []) ≡ Some (length xs)
  found-behind none it =
      let longer : length (xs ++ y ∷ []) ≡ length xs + 1 = grind (arith, common_steps) in
      rw longer (at-end (position_or_len p xs) (length xs) (position_or_len p (xs ++ y ∷ [])) (prefix_len-le-length (λ x. not (p x)) xs)
      (some_place p xs ∙ none) (position_or_len_push p xs y ∙ ap (λ b. cond (eqb (position_or_len p xs) (length xs)) (length xs + cond b 0 1) (position_or_len p xs)) it))

  -- one that doesn't pass, after others
  pub same-behind : p y ≡ false → position p (xs ++ y ∷ []) ≡ position p xs
  same-behind it =
      let longer : length (xs ++ y ∷ []) ≡ length xs + 1 = grind (arith, common_steps) in
      rw longer (before-end (position_or_len p xs) (length xs) (position_or_len p (xs ++ y ∷ [])) (prefix_len-le-length (λ x. not (p x)) xs)
      (position_or_len_push p xs y ∙ ap (λ b. cond (eqb (position_or_len p xs) (length xs)) (length xs + cond b 0 1) (position_or_len p xs)) it))

-- a new point has the index after the others, and each other point keeps its own
pub finds-more : (places : List (Option ℕ)) (points : List ℕ) (point place : ℕ) → place ≡ length points → length places ≡ 2 ^ 14 → point < 2 ^ 14
    → list_any (nat_eq point) points ≡ false → Finds places points → Finds (slice_set places point (Some place)) (points ++ point ∷ [])
finds-more places points point place last long fits none finds code within = by (nat_eq code point) refl
  where
    set : List (Option ℕ)
    set = slice_set places point (Some place)

    still : length set ≡ length places
    still = grind (arith, common_steps)

    by : (b : Bool) → nat_eq code point ≡ b → slice_get set code ≡ Some (position (nat_eq code) (points ++ point ∷ []))
    by true e =
        let it : code ≡ point = grind (arith, nat_tests) in
        let own : get_or set point None ≡ Some place = grind (arith, common_steps) in
        let itself : nat_eq point point ≡ true = grind (arith, nat_tests) in
        rw it (slice_get-get_or set point None (omega (arith, still, long, fits)) ∙ ap Some (own ∙ ap Some last ∙ sym (found-behind (nat_eq point) points point none itself)))
    by false e =
        let other : code ≢ point = grind (arith, nat_tests) in
        let same : get_or set code None ≡ get_or places code None = grind (arith, common_steps) in
        slice_get-get_or set code None (omega (arith, still, long, within)) ∙ ap Some same ∙ sym (slice_get-get_or places code None (omega (arith, long, within)))
        ∙ finds code within ∙ ap Some (sym (same-behind (nat_eq code) points point e))

abbrev nowhere : Option ℕ
nowhere = None

none-found : (count code : ℕ) → code < count → slice_get (replicate count nowhere) code ≡ Some nowhere
none-found zero code within = absurd (omega (arith, within))
none-found (suc count) zero within = refl
none-found (suc count) (suc code) within = none-found count code (omega (arith, within))

-- at first no point has a place
pub finds-none : (places : List (Option ℕ)) (codes : ℕ) → codes ≡ 2 ^ 14 → places ≡ replicate codes nowhere → Finds places []
finds-none places codes many none code within = ap (λ xs. slice_get xs code) none ∙ none-found codes code (omega (arith, many, within))
