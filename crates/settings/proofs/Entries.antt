-- The first fault of a list's entries, from one entry to the next.
use Rattle.settings.proofs.Basics.{refl, ap, Bool, true, false, not, cond, suc, nat_lt, ◌||◌, slice_set, ◌≡◌, ◌≤◌, ◌<◌, ◌+◌, ℕ, List, [], ◌∷◌, ◌++◌, Option, Some, None, length, take, drop, map, get_or, arith, common_steps, is_some, list_any, list_all, position, position_or_len, nat_tests, first_of, fault_unless, entries_fault, DraftFault, FaultKind, Key}

pub first_of-one : (a : Option DraftFault) → first_of (a ∷ []) ≡ a
first_of-one None = refl
first_of-one (Some fault) = refl

-- an entry without a fault leaves the fault of the rest
pub past_entry : {A : Type 0} (f : List A → A → Option DraftFault) (xs : List A) (i : ℕ) (x d : A) → i < length xs → x ≡ get_or xs i d → f (take i xs) x ≡ None → entries_fault f (take (i + 1) xs) (drop (i + 1) xs) ≡ entries_fault f (take i xs) (drop i xs)
past_entry f xs i x d l e h = grind (arith, common_steps, first_of-one)

-- the fault of an entry is that of the entries from it on
pub at_entry : {A : Type 0} (f : List A → A → Option DraftFault) (xs : List A) (i : ℕ) (x d : A) (fault : DraftFault) → i < length xs → x ≡ get_or xs i d → f (take i xs) x ≡ Some fault → entries_fault f (take i xs) (drop i xs) ≡ Some fault
at_entry f xs i x d fault l e h = grind (arith, common_steps)

-- after the last entry there is no fault
pub past_all : {A : Type 0} (f : List A → A → Option DraftFault) (xs : List A) (i : ℕ) → length xs ≤ i → entries_fault f (take i xs) (drop i xs) ≡ None
past_all f xs i l = grind (arith, common_steps)

-- one row more
pub next_row : {A B : Type 0} (g : A → B) (xs : List A) (i : ℕ) (x d : A) (rows : List B) (row : B) → i < length xs → x ≡ get_or xs i d → rows ≡ map g (take i xs) → row ≡ g x → rows ++ row ∷ [] ≡ map g (take (i + 1) xs)
next_row g xs i x d rows row l e h k = grind (arith, common_steps)

-- all rows
pub all_rows : {A B : Type 0} (g : A → B) (xs : List A) (i : ℕ) (rows : List B) → length xs ≤ i → rows ≡ map g (take i xs) → rows ≡ map g xs
all_rows g xs i rows l h = grind (arith, common_steps)

-- one place more of a row of fixed length
pub next_place : {A B : Type 0} (g : A → B) (xs : List A) (i : ℕ) (x d : A) (ys : List B) (y : B) → i < length xs → i < length ys → x ≡ get_or xs i d → take i ys ≡ map g (take i xs) → y ≡ g x → take (i + 1) (slice_set ys i y) ≡ map g (take (i + 1) xs)
next_place g xs i x d ys y l m e h k = grind (arith, common_steps)

-- all places
pub last_place : {A B : Type 0} (g : A → B) (xs : List A) (i : ℕ) (ys : List B) → length xs ≤ i → length ys ≤ i → take i ys ≡ map g (take i xs) → ys ≡ map g xs
last_place g xs i ys l m h = grind (arith, common_steps)

-- a place is found where some element passes
pub some_place : {A : Type 0} (p : A → Bool) (xs : List A) → is_some (position p xs) ≡ list_any p xs
some_place p [] = refl
some_place p (x ∷ xs) = by (p x) (position_or_len p xs) (length xs) (list_any p xs) (some_place p xs)
  where
    place : ℕ → ℕ → Option ℕ
    place m n = cond (nat_lt m n) (Some m) None

    by : (b : Bool) (m n : ℕ) (a : Bool) → is_some (place m n) ≡ a → is_some (place (cond (not b) (1 + m) 0) (suc n)) ≡ (b || a)
    by true m n a h = grind (arith, nat_tests)
    by false m n a h = grind (arith, nat_tests)

-- whether an image passes
pub any-map : {A B : Type 0} (p : B → Bool) (f : A → B) (xs : List A) → list_any p (map f xs) ≡ list_any (λ x. p (f x)) xs
any-map p f [] = refl
any-map p f (x ∷ xs) = ap (λ b. p (f x) || b) (any-map p f xs)

-- what is read of one row more
pub pushed_map : {A B : Type 0} (g : A → B) (rows : List A) (row : A) (ys : List B) (y : B) → ys ≡ map g rows → y ≡ g row → ys ++ y ∷ [] ≡ map g (rows ++ row ∷ [])
pushed_map g rows row ys y h k = grind (arith, common_steps)

-- ---- elements that all have to pass
pub past_passing : {A : Type 0} (p : A → Bool) (xs : List A) (i : ℕ) (x d : A) → i < length xs → x ≡ get_or xs i d → p x ≡ true → list_all p (drop (i + 1) xs) ≡ list_all p (drop i xs)
past_passing p xs i x d l e h = grind (arith, common_steps)

pub at_failing : {A : Type 0} (p : A → Bool) (xs : List A) (i : ℕ) (x d : A) → i < length xs → x ≡ get_or xs i d → p x ≡ false → list_all p (drop i xs) ≡ false
at_failing p xs i x d l e h = grind (arith, common_steps)

pub past_last : {A : Type 0} (p : A → Bool) (xs : List A) (i : ℕ) → length xs ≤ i → list_all p (drop i xs) ≡ true
past_last p xs i l = grind (arith, common_steps)

-- where one test fails, so does the other, with the same fault
pub fails_too : (b c : Bool) (kind : FaultKind) (key : Key) (fault : DraftFault) → (b ≡ false → c ≡ false) → fault_unless b kind key ≡ Some fault → fault_unless c kind key ≡ Some fault
fails_too true c kind key fault from h = cc
fails_too false c kind key fault from h = rw (from refl) h

pub passes_too : (b : Bool) (kind : FaultKind) (key : Key) → b ≡ true → fault_unless b kind key ≡ None
passes_too b kind key h = rw h refl
