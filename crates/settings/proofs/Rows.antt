-- What entries without a fault have in common, and what holds of what is made from them.
use Rattle.settings.proofs.Basics.{refl, sym, subst, cond, ◌∙◌, ◌≡◌, ◌<◌, ℕ, Bool, true, false, ◌||◌, nat_lt, List, [], ◌∷◌, ◌++◌, map, length, append_assoc, arith, Option, Some, None, ℤ, pos, negsuc, slice_get, AllByRecursion, IsDistinct, list_any, list_all, filter, eqb, append-nil, All-from_recursion, get_or_from_slice_get, slice_get_past, nat_tests, Decides-eqb, first_of, entries_fault, fault_unless, is_within, natural, DraftFault, FaultKind, Key, IsWithin, or_parts, or_left, or_right, and_parts}

-- ---- tests
-- a test fails where another fails, if it passes only where the other passes
pub false_by : (p q : Bool) → (q ≡ true → p ≡ true) → p ≡ false → q ≡ false
false_by p true from h = sym (from refl) ∙ h
false_by p false from h = refl

-- ---- faults
one_none : (a : Option DraftFault) → first_of (a ∷ []) ≡ None → a ≡ None
one_none None h = refl
one_none (Some fault) h = h

pub two_none : (a b : Option DraftFault) → first_of (a ∷ b ∷ []) ≡ None → (a ≡ None) × (b ≡ None)
two_none None b h = (refl, one_none b h)
two_none (Some fault) b h = (h, cc)

pub three_none : (a b c : Option DraftFault) → first_of (a ∷ b ∷ c ∷ []) ≡ None → (a ≡ None) × (b ≡ None) × (c ≡ None)
three_none None b c h = let r = two_none b c h in (refl, r.0, r.1)
three_none (Some fault) b c h = (h, cc, cc)

pub four_none : (a b c d : Option DraftFault) → first_of (a ∷ b ∷ c ∷ d ∷ []) ≡ None → (a ≡ None) × (b ≡ None) × (c ≡ None) × (d ≡ None)
four_none None b c d h = let r = three_none b c d h in (refl, r.0, r.1, r.2)
four_none (Some fault) b c d h = (h, cc, cc, cc)

pub five_none : (a b c d e : Option DraftFault) → first_of (a ∷ b ∷ c ∷ d ∷ e ∷ []) ≡ None → (a ≡ None) × (b ≡ None) × (c ≡ None) × (d ≡ None) × (e ≡ None)
five_none None b c d e h = let r = four_none b c d e h in (refl, r.0, r.1, r.2, r.3)
five_none (Some fault) b c d e h = (h, cc, cc, cc, cc)

pub passes : (b : Bool) (kind : FaultKind) (key : Key) → fault_unless b kind key ≡ None → b ≡ true
passes true kind key h = refl
passes false kind key h = cc

pub two_pass : (b c : Bool) (k l : FaultKind) (key : Key) → first_of (fault_unless b k key ∷ fault_unless c l key ∷ []) ≡ None → (b ≡ true) × (c ≡ true)
two_pass b c k l key h =
    let r = two_none (fault_unless b k key) (fault_unless c l key) h in
    (passes b k key r.0, passes c l key r.1)

pub within_from_test : (low high : ℕ) (n : ℤ) → is_within low high n ≡ true → IsWithin low high (natural n)
within_from_test low high (pos n) h = record { above = grind (arith, nat_tests); below = grind (arith, nat_tests) }
within_from_test low high (negsuc n) h = cc

-- ---- each entry
pub each_entry : {A : Type 0} (f : List A → A → Option DraftFault) (Q : A → Type 0) → ((earlier : List A) (x : A) → f earlier x ≡ None → Q x) → (earlier xs : List A) → entries_fault f earlier xs ≡ None → AllByRecursion Q xs
each_entry f Q step earlier [] h = tt
each_entry f Q step earlier (x ∷ xs) h =
    let r = two_none (f earlier x) (entries_fault f (earlier ++ x ∷ []) xs) h in
    (step earlier x r.0, each_entry f Q step (earlier ++ x ∷ []) xs r.1)

pub each_of_all : {A : Type 0} (p : A → Bool) (xs : List A) → list_all p xs ≡ true → AllByRecursion (λ x. p x ≡ true) xs
each_of_all p [] h = tt
each_of_all p (x ∷ xs) h = let r = and_parts (p x) (list_all p xs) h in (r.0, each_of_all p xs r.1)

pub none_of_any : {A : Type 0} (p : A → Bool) (xs : List A) → list_any p xs ≡ false → AllByRecursion (λ x. p x ≡ false) xs
none_of_any p [] h = tt
none_of_any p (x ∷ xs) h = let r = or_parts (p x) (list_any p xs) h in (r.0, none_of_any p xs r.1)

pub every : {A : Type 0} (xs : List A) → AllByRecursion (λ x. Unit {0}) xs
every [] = tt
every (x ∷ xs) = (tt, every xs)

pub each_then : {A : Type 0} (P Q : A → Type 0) → ((x : A) → P x → Q x) → (xs : List A) → AllByRecursion P xs → AllByRecursion Q xs
each_then P Q step [] h = tt
each_then P Q step (x ∷ xs) h = (step x h.0, each_then P Q step xs h.1)

pub each_made : {A B : Type 0} (P : A → Type 0) (Q : B → Type 0) (g : A → B) → ((x : A) → P x → Q (g x)) → (xs : List A) → AllByRecursion P xs → AllByRecursion Q (map g xs)
each_made P Q g step [] h = tt
each_made P Q g step (x ∷ xs) h = (step x h.0, each_made P Q g step xs h.1)

pub each_unmapped : {A B : Type 0} (Q : B → Type 0) (g : A → B) (xs : List A) → AllByRecursion Q (map g xs) → AllByRecursion (λ x. Q (g x)) xs
each_unmapped Q g [] h = tt
each_unmapped Q g (x ∷ xs) h = (h.0, each_unmapped Q g xs h.1)

pub each_push : {A : Type 0} (Q : A → Type 0) (xs : List A) (y : A) → AllByRecursion Q xs → Q y → AllByRecursion Q (xs ++ y ∷ [])
each_push Q [] y h k = (k, tt)
each_push Q (x ∷ xs) y h k = (h.0, each_push Q xs y h.1 k)

pub within_from_get : {A : Type 0} (xs : List A) (i : ℕ) (x : A) → slice_get xs i ≡ Some x → i < length xs
within_from_get xs i x e = by (nat_lt i (length xs)) refl
  where
    by : (b : Bool) → nat_lt i (length xs) ≡ b → i < length xs
    by true f = grind (arith, nat_tests)
    by false f = let past : slice_get xs i ≡ None = slice_get_past xs i (grind (arith, nat_tests)) in cc

pub each_at : {A : Type 0} (Q : A → Type 0) (xs : List A) (i : ℕ) (x : A) → AllByRecursion Q xs → slice_get xs i ≡ Some x → Q x
each_at Q xs i x h e = subst (λ y. Q y) (get_or_from_slice_get xs i x x e) (All-from_recursion Q xs h i x (within_from_get xs i x e))

-- ---- entries that differ
pub none_differ : {A : Type 0} (eq : A → A → Bool) → IsDistinct eq []
unfolding IsDistinct
none_differ eq = tt

differ_push : {A : Type 0} (eq : A → A → Bool) (xs : List A) (y : A) → IsDistinct eq xs → AllByRecursion (λ x. eq x y ≡ false) xs → IsDistinct eq (xs ++ y ∷ [])
unfolding IsDistinct
differ_push eq [] y d h = (tt, tt)
differ_push eq (x ∷ xs) y d h = (each_push (λ z. eq x z ≡ false) xs y d.0 h.0, differ_push eq xs y d.1 h.1)

pub entries_differ : {A : Type 0} (f : List A → A → Option DraftFault) (eq : A → A → Bool) → ((earlier : List A) (x : A) → f earlier x ≡ None → AllByRecursion (λ e. eq e x ≡ false) earlier) → (earlier xs : List A) → IsDistinct eq earlier → entries_fault f earlier xs ≡ None → IsDistinct eq (earlier ++ xs)
entries_differ f eq step earlier [] d h = rw (append-nil earlier) d
entries_differ f eq step earlier (x ∷ xs) d h =
    let r = two_none (f earlier x) (entries_fault f (earlier ++ x ∷ []) xs) h in
    rw (← append_assoc earlier (x ∷ []) xs) (entries_differ f eq step (earlier ++ x ∷ []) xs (differ_push eq earlier x d (step earlier x r.0)) r.1)

apart_made : {A B : Type 0} (P : A → Type 0) (eq : A → A → Bool) (like : B → B → Bool) (g : A → B) → ((x y : A) → P x → P y → like (g x) (g y) ≡ true → eq x y ≡ true) → (x : A) → P x → (ys : List A) → AllByRecursion P ys → AllByRecursion (λ y. eq x y ≡ false) ys → AllByRecursion (λ y. like (g x) y ≡ false) (map g ys)
apart_made P eq like g from x p [] q e = tt
apart_made P eq like g from x p (y ∷ ys) q e =
    (false_by (eq x y) (like (g x) (g y)) (from x y p q.0) e.0, apart_made P eq like g from x p ys q.1 e.1)

-- what is made from elements that differ differs, where two that are alike come from elements that are alike
pub differ_made : {A B : Type 0} (P : A → Type 0) (eq : A → A → Bool) (like : B → B → Bool) (g : A → B) → ((x y : A) → P x → P y → like (g x) (g y) ≡ true → eq x y ≡ true) → (xs : List A) → AllByRecursion P xs → IsDistinct eq xs → IsDistinct like (map g xs)
unfolding IsDistinct
differ_made P eq like g from [] p d = tt
differ_made P eq like g from (x ∷ xs) p d = (apart_made P eq like g from x p.0 xs p.1 d.0, differ_made P eq like g from xs p.1 d.1)

-- ---- those that pass a test
pub each_filtered : {A : Type 0} (p : A → Bool) (Q : A → Type 0) (xs : List A) → AllByRecursion Q xs → AllByRecursion Q (filter p xs)
each_filtered p Q [] h = tt
each_filtered p Q (x ∷ xs) h = by (p x) (each_filtered p Q xs h.1)
  where
    by : (b : Bool) → AllByRecursion Q (filter p xs) → AllByRecursion Q (cond b (x ∷ filter p xs) (filter p xs))
    by true rest = (h.0, rest)
    by false rest = rest

pub each_passes : {A : Type 0} (p : A → Bool) (xs : List A) → AllByRecursion (λ x. p x ≡ true) (filter p xs)
each_passes p [] = tt
each_passes p (x ∷ xs) = by (p x) refl (each_passes p xs)
  where
    by : (b : Bool) → p x ≡ b → AllByRecursion (λ x. p x ≡ true) (filter p xs) → AllByRecursion (λ x. p x ≡ true) (cond b (x ∷ filter p xs) (filter p xs))
    by true e rest = (e, rest)
    by false e rest = rest

pub differ_filter : {A : Type 0} (eq : A → A → Bool) (p : A → Bool) (xs : List A) → IsDistinct eq xs → IsDistinct eq (filter p xs)
unfolding IsDistinct
differ_filter eq p [] d = tt
differ_filter eq p (x ∷ xs) d = by (p x) (differ_filter eq p xs d.1)
  where
    by : (b : Bool) → IsDistinct eq (filter p xs) → IsDistinct eq (cond b (x ∷ filter p xs) (filter p xs))
    by true rest = (each_filtered p (λ y. eq x y ≡ false) xs d.0, rest)
    by false rest = rest

pub below_from_each : (n : ℕ) (xs : List ℕ) → AllByRecursion (λ x. x < n) xs → (q : ℕ) → list_any (eqb q) xs ≡ true → q < n
below_from_each n [] h q e = cc
below_from_each n (x ∷ xs) h q e = by (eqb q x) refl e (below_from_each n xs h.1 q)
  where
    by : (b : Bool) → eqb q x ≡ b → (b || list_any (eqb q) xs) ≡ true → (list_any (eqb q) xs ≡ true → q < n) → q < n
    by true same k rest = let one : q ≡ x = (Decides-eqb q x).0 same in let two : x < n = h.0 in omega arith
    by false other k rest = rest k

pub any_made : {A B : Type 0} (p : A → Bool) (q : B → Bool) (g : A → B) → ((x : A) → p x ≡ true → q (g x) ≡ true) → (xs : List A) → list_any p xs ≡ true → list_any q (map g xs) ≡ true
any_made p q g step [] h = h
any_made p q g step (x ∷ xs) h = by (p x) refl h (any_made p q g step xs)
  where
    by : (b : Bool) → p x ≡ b → (b || list_any p xs) ≡ true → (list_any p xs ≡ true → list_any q (map g xs) ≡ true) → (q (g x) || list_any q (map g xs)) ≡ true
    by true e k rest = or_left (q (g x)) (list_any q (map g xs)) (step x e)
    by false e k rest = or_right (q (g x)) (list_any q (map g xs)) (rest k)
