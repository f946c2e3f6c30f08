-- The names of a node: each that exists is in their list, and no other.
use Rattle.timers.proofs.Basics.{◌≡◌, ℕ, zero, suc, nat_lt, ◌+◌, ◌<◌, ◌≤◌, ◌||◌, true, false, List, [], ◌∷◌, ◌++◌, length, map, get_or, inl, inr, refl, sym, ap, subst, ◌∙◌, arith, cases_order, ◌&&◌, AllByRecursion, list_any, flat_map, range_with_len, TimerName, L1, L2, L3, L4, L6, L7, T1, T2, T3, T4, T6, T8, T10, Slt1, Slt2, NodeCounts, is_same, has_name, each, each_in_rows, names_by_kind, names_of, or-true, ltb-true, lt-ltb}
use Rattle.std.proofs.lemmas.List.Folds.{list_any-append}
use Rattle.timers.proofs.Elements.{all-append, two_below, two_under}
use Rattle.timers.proofs.Same.{same_is, is_itself}

-- one fact and those after it
infixr 20 ◌&◌
pub ◌&◌ : {A B : Type 0} → A → B → A × B
a & b = (a, b)

-- ---- all of a kind, of several kinds

pub all-each : (P : TimerName → Type 0) (name : ℕ → TimerName) (a count : ℕ) → ((i : ℕ) → a ≤ i → i < a + count → P (name i)) → AllByRecursion P (map name (range_with_len a count))
all-each P name a zero h = tt
all-each P name a (suc count) h = (h a (omega arith) (omega arith), all-each P name (a + 1) count (λ i l k. h i (omega (arith, l)) (omega (arith, k))))

abbrev pub rows : (ℕ → ℕ → TimerName) → (a count columns : ℕ) → List TimerName
rows name a count columns = flat_map (λ row. each (name row) columns) (range_with_len a count)

pub all-rows : (P : TimerName → Type 0) (name : ℕ → ℕ → TimerName) (a count columns : ℕ) → ((i j : ℕ) → a ≤ i → i < a + count → j < columns → P (name i j)) → AllByRecursion P (rows name a count columns)
all-rows P name a zero columns h = tt
all-rows P name a (suc count) columns h =
    all-append P (each (name a) columns) (rows name (a + 1) count columns)
    (all-each P (name a) 0 columns (λ j l k. h a j (omega arith) (omega arith) (omega (arith, k))))
    (all-rows P name (a + 1) count columns (λ i j l k m. h i j (omega (arith, l)) (omega (arith, k)) m))

abbrev pub joined : List (List TimerName) → List TimerName
joined pieces = flat_map (λ names. names) pieces

abbrev pub AllOf : (TimerName → Type 0) → List (List TimerName) → Type 0
AllOf P pieces = AllByRecursion (λ names. AllByRecursion P names) pieces

pub all-joined : (P : TimerName → Type 0) (pieces : List (List TimerName)) → AllOf P pieces → AllByRecursion P (joined pieces)
all-joined P [] h = tt
all-joined P (names ∷ pieces) h = all-append P names (joined pieces) h.0 (all-joined P pieces h.1)

-- ---- each that exists occurs there

abbrev pub IsIn : TimerName → List TimerName → Type 0
IsIn name names = list_any (λ x. is_same x name) names ≡ true

in-first : (name : TimerName) (xs ys : List TimerName) → IsIn name xs → IsIn name (xs ++ ys)
in-first name xs ys h = list_any-append (λ x. is_same x name) xs ys ∙ ap (λ b. b || list_any (λ x. is_same x name) ys) h

in-second : (name : TimerName) (xs ys : List TimerName) → IsIn name ys → IsIn name (xs ++ ys)
in-second name xs ys h =
    list_any-append (λ x. is_same x name) xs ys
    ∙ ap (λ b. list_any (λ x. is_same x name) xs || b) h
    ∙ or-true (list_any (λ x. is_same x name) xs)

in-each : (name : ℕ → TimerName) (i a count : ℕ) → a ≤ i → i < a + count → IsIn (name i) (map name (range_with_len a count))
in-each name i a zero l k = absurd (omega (arith, l, k))
in-each name i a (suc count) l k =
    let rest = map name (range_with_len (a + 1) count) in
    elim (cases_order a i) [
      | inl same ↦ ap (λ b. b || list_any (λ x. is_same x (name i)) rest) (ap (λ j. is_same (name j) (name i)) same ∙ is_itself (name i))
      | inr (inl lower) ↦ in-second (name i) (name a ∷ []) rest (in-each name i (a + 1) count (omega (arith, lower)) (omega (arith, k)))
      | inr (inr higher) ↦ absurd (omega (arith, l, higher))
    ]

in-rows : (name : ℕ → ℕ → TimerName) (i j a count columns : ℕ) → a ≤ i → i < a + count → j < columns → IsIn (name i j) (rows name a count columns)
in-rows name i j a zero columns l k m = absurd (omega (arith, l, k))
in-rows name i j a (suc count) columns l k m =
    let rest = rows name (a + 1) count columns in
    elim (cases_order a i) [
      | inl same ↦ in-first (name i j) (each (name a) columns) rest (subst (λ r. IsIn (name i j) (each (name r) columns)) (sym same) (in-each (name i) j 0 columns (omega arith) (omega (arith, m))))
      | inr (inl lower) ↦ in-second (name i j) (each (name a) columns) rest (in-rows name i j (a + 1) count columns (omega (arith, lower)) (omega (arith, k)) m)
      | inr (inr higher) ↦ absurd (omega (arith, l, higher))
    ]

in-joined : (name : TimerName) (pieces : List (List TimerName)) (k : ℕ) → k < length pieces → IsIn name (get_or pieces k []) → IsIn name (joined pieces)
in-joined name [] k l h = absurd (omega (arith, l))
in-joined name (names ∷ pieces) zero l h = in-first name names (joined pieces) h
in-joined name (names ∷ pieces) (suc k) l h = in-second name names (joined pieces) (in-joined name pieces k (omega (arith, l)) h)

one_of : (name : ℕ → TimerName) (i count : ℕ) → nat_lt i count ≡ true → IsIn (name i) (each name count)
one_of name i count h = in-each name i 0 count (omega arith) (omega (arith, ltb-true i count h))

one_of_rows : (name : ℕ → ℕ → TimerName) (i j count columns : ℕ) → (nat_lt i count && nat_lt j columns) ≡ true → IsIn (name i j) (each_in_rows name count columns)
one_of_rows name i j count columns h =
    let b = two_below i count j columns h in
    in-rows name i j 0 count columns (omega arith) (omega (arith, b.0)) b.1

pub is_in : (n : NodeCounts) (name : TimerName) → has_name n name ≡ true → IsIn name (names_of n)
unfolding names_of
is_in n name h = at name h
  where
    piece : (name : TimerName) (k : ℕ) → k < 15 → IsIn name (get_or (names_by_kind n) k []) → IsIn name (joined (names_by_kind n))
    piece name k l h = in-joined name (names_by_kind n) k l h

    at : (name : TimerName) → has_name n name ≡ true → IsIn name (joined (names_by_kind n))
    at (L1 link) h = piece (L1 link) 0 (omega arith) (one_of (λ link. L1 link) link n.links h)
    at (L2 link) h = piece (L2 link) 1 (omega arith) (one_of (λ link. L2 link) link n.links h)
    at (L3 link) h = piece (L3 link) 2 (omega arith) (one_of (λ link. L3 link) link n.links h)
    at (L4 link) h = piece (L4 link) 3 (omega arith) (one_of (λ link. L4 link) link n.links h)
    at (L6 link) h = piece (L6 link) 4 (omega arith) (one_of (λ link. L6 link) link n.links h)
    at (L7 link) h = piece (L7 link) 5 (omega arith) (one_of (λ link. L7 link) link n.links h)
    at (T1 link) h = piece (T1 link) 6 (omega arith) (one_of (λ link. T1 link) link n.links h)
    at (T2 link) h = piece (T2 link) 7 (omega arith) (one_of (λ link. T2 link) link n.links h)
    at (T3 link) h = piece (T3 link) 8 (omega arith) (one_of (λ link. T3 link) link n.links h)
    at (T4 set code) h = piece (T4 set code) 9 (omega arith) (one_of_rows (λ set code. T4 set code) set code n.sets 16 h)
    at (T6 destination) h = piece (T6 destination) 10 (omega arith) (one_of (λ destination. T6 destination) destination n.destinations h)
    at (T8 set destination) h = piece (T8 set destination) 11 (omega arith) (one_of_rows (λ set destination. T8 set destination) set destination n.sets n.destinations h)
    at (T10 set destination) h = piece (T10 set destination) 12 (omega arith) (one_of_rows (λ set destination. T10 set destination) set destination n.sets n.destinations h)
    at (Slt1 link) h = piece (Slt1 link) 13 (omega arith) (one_of (λ link. Slt1 link) link n.links h)
    at (Slt2 link) h = piece (Slt2 link) 14 (omega arith) (one_of (λ link. Slt2 link) link n.links h)

-- ---- and no other does

all_exist : (n : NodeCounts) (name : ℕ → TimerName) (count : ℕ) → ((i : ℕ) → has_name n (name i) ≡ nat_lt i count) → AllByRecursion (λ x. has_name n x ≡ true) (each name count)
all_exist n name count h = all-each (λ x. has_name n x ≡ true) name 0 count (λ i l k. h i ∙ lt-ltb i count (omega (arith, k)))

all_rows_exist : (n : NodeCounts) (name : ℕ → ℕ → TimerName) (count columns : ℕ) → ((i j : ℕ) → has_name n (name i j) ≡ (nat_lt i count && nat_lt j columns))
    → AllByRecursion (λ x. has_name n x ≡ true) (each_in_rows name count columns)
all_rows_exist n name count columns h = all-rows (λ x. has_name n x ≡ true) name 0 count columns (λ i j l k m. h i j ∙ two_under i count j columns (omega (arith, k)) m)

pub names-exist : (n : NodeCounts) → AllByRecursion (λ x. has_name n x ≡ true) (names_of n)
unfolding names_of
names-exist n = all-joined (λ x. has_name n x ≡ true) (names_by_kind n) all
  where
    all : AllOf (λ x. has_name n x ≡ true) (names_by_kind n)
    all =
        all_exist n (λ link. L1 link) n.links (λ i. refl)
        & all_exist n (λ link. L2 link) n.links (λ i. refl)
        & all_exist n (λ link. L3 link) n.links (λ i. refl)
        & all_exist n (λ link. L4 link) n.links (λ i. refl)
        & all_exist n (λ link. L6 link) n.links (λ i. refl)
        & all_exist n (λ link. L7 link) n.links (λ i. refl)
        & all_exist n (λ link. T1 link) n.links (λ i. refl)
        & all_exist n (λ link. T2 link) n.links (λ i. refl)
        & all_exist n (λ link. T3 link) n.links (λ i. refl)
        & all_rows_exist n (λ set code. T4 set code) n.sets 16 (λ i j. refl)
        & all_exist n (λ destination. T6 destination) n.destinations (λ i. refl)
        & all_rows_exist n (λ set destination. T8 set destination) n.sets n.destinations (λ i j. refl)
        & all_rows_exist n (λ set destination. T10 set destination) n.sets n.destinations (λ i j. refl)
        & all_exist n (λ link. Slt1 link) n.links (λ i. refl)
        & all_exist n (λ link. Slt2 link) n.links (λ i. refl)
        & tt

-- what holds of each holds of one that occurs there
pub holds_of : (P : TimerName → Type 0) (name : TimerName) (names : List TimerName) → AllByRecursion P names → IsIn name names → P name
holds_of P name [] h e = absurd cc
holds_of P name (x ∷ names) h e =
    elim (is_same x name) as (λ b. is_same x name ≡ b → (b || list_any (λ x. is_same x name) names) ≡ true → P name) [
      | true ↦ λ s e. subst P (same_is x name s) h.0
      | false ↦ λ s e. holds_of P name names h.1 e
    ] refl e

pub names-all : (n : NodeCounts) (name : TimerName) → list_any (λ x. is_same x name) (names_of n) ≡ has_name n name
names-all n name =
    elim (has_name n name) as (λ b. has_name n name ≡ b → list_any (λ x. is_same x name) (names_of n) ≡ b) [
      | true ↦ λ e. is_in n name e
      | false ↦ λ e. elim (list_any (λ x. is_same x name) (names_of n)) as (λ c. list_any (λ x. is_same x name) (names_of n) ≡ c → c ≡ false) [
        | true ↦ λ h. sym (holds_of (λ x. has_name n x ≡ true) name (names_of n) (names-exist n) h) ∙ e
        | false ↦ λ h. refl
      ] refl
    ] refl
