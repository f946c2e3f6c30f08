-- Numbers without a fault are within their limits.
use Rattle.settings.proofs.Basics.{◌≡◌, ℕ, Bool, true, false, not, ◌&&◌, nat_eq, nat_le, nat_lt, List, [], ◌∷◌, map, All, arith, Option, None, Some, IfSome, option_map, ℤ, IsDistinct, list_all, list_any, All-from_recursion, nat_tests, natural, is_within, has_repeat, numbers_fault, count_fault, range_fault, optional_fault, far_point_fault, Key, Range, Duplicate, TooMany, IsWithin, IsFarPoint, or_parts, not-true, and_parts}
use Rattle.settings.proofs.Rows.{passes, two_pass, within_from_test, each_of_all, each_made, none_of_any, each_then}

pub in_range : (low high : ℕ) (key : Key) (n : ℤ) → range_fault low high key n ≡ None → IsWithin low high (natural n)
in_range low high key n h = within_from_test low high n (passes (is_within low high n) Range key h)

pub optional_in_range : (low high : ℕ) (key : Key) (n : Option ℤ) → optional_fault low high key n ≡ None → IfSome (option_map natural n) (IsWithin low high)
optional_in_range low high key None h = tt
optional_in_range low high key (Some n) h = in_range low high key n h

pub no_repeat : {A : Type 0} (eq like : A → A → Bool) → ((x y : A) → eq y x ≡ false → like x y ≡ false) → (xs : List A) → has_repeat eq xs ≡ false → IsDistinct like xs
unfolding IsDistinct
no_repeat eq like flips [] h = tt
no_repeat eq like flips (x ∷ xs) h =
    let r = or_parts (list_any (λ y. eq y x) xs) (has_repeat eq xs) h in
    (each_then (λ y. eq y x ≡ false) (λ y. like x y ≡ false) (flips x) xs (none_of_any (λ y. eq y x) xs r.0), no_repeat eq like flips xs r.1)

pub nat_eq-flips : (x y : ℕ) → nat_eq y x ≡ false → nat_eq x y ≡ false
nat_eq-flips x y h = grind (arith, nat_tests)

numbers_pass : (low high : ℕ) (key : Key) (ns : List ℤ) → numbers_fault low high key ns ≡ None → (list_all (is_within low high) ns ≡ true) × (not (has_repeat nat_eq (map natural ns)) ≡ true)
unfolding numbers_fault
numbers_pass low high key ns h = two_pass (list_all (is_within low high) ns) (not (has_repeat nat_eq (map natural ns))) Range Duplicate key h

pub numbers_within : (low high : ℕ) (key : Key) (ns : List ℤ) → numbers_fault low high key ns ≡ None → All (IsWithin low high) (map natural ns)
numbers_within low high key ns h =
    All-from_recursion (IsWithin low high) (map natural ns) (each_made (λ n. is_within low high n ≡ true) (IsWithin low high) natural (within_from_test low high) ns (each_of_all (is_within low high) ns (numbers_pass low high key ns h).0))

pub numbers_differ : (low high : ℕ) (key : Key) (ns : List ℤ) → numbers_fault low high key ns ≡ None → IsDistinct nat_eq (map natural ns)
numbers_differ low high key ns h =
    no_repeat nat_eq nat_eq nat_eq-flips (map natural ns) (not-true (has_repeat nat_eq (map natural ns)) (numbers_pass low high key ns h).1)

pub count_within : (limit n : ℕ) (key : Key) → count_fault limit key n ≡ None → IsWithin 1 limit n
count_within limit n key h =
    let r = two_pass (nat_le n limit) (nat_lt 0 n) TooMany Range key h in
    let few : nat_le n limit ≡ true = r.0 in
    let some : nat_lt 0 n ≡ true = r.1 in
    record { above = grind (arith, nat_tests); below = grind (arith, nat_tests) }

pub far_point_within : (own : ℕ) (key : Key) (n : ℤ) → far_point_fault own key n ≡ None → is_within 0 16383 n ≡ true
far_point_within own key n h =
    (and_parts (is_within 0 16383 n) (not (nat_eq (natural n) own)) (passes (is_within 0 16383 n && not (nat_eq (natural n) own)) Range key h)).0

pub far_point_well : (own : ℕ) (key : Key) (n : ℤ) → far_point_fault own key n ≡ None → IsFarPoint own (natural n)
far_point_well own key n h =
    let r = and_parts (is_within 0 16383 n) (not (nat_eq (natural n) own)) (passes (is_within 0 16383 n && not (nat_eq (natural n) own)) Range key h) in
    let within : IsWithin 0 16383 (natural n) = within_from_test 0 16383 n r.0 in
    let far : nat_eq (natural n) own ≡ false = not-true (nat_eq (natural n) own) r.1 in
    record { fits = omega (arith, within.below); far = grind (arith, nat_tests) }
