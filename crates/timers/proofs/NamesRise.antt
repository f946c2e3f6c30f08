-- The names of a node rise: each occurs once in their list.
use Rattle.timers.proofs.Basics.{◌≡◌, ℕ, zero, suc, ◌+◌, ◌<◌, ◌≤◌, true, List, [], ◌∷◌, ◌++◌, map, refl, ap, ◌∙◌, arith, nat_tests, AllByRecursion, range_with_len, TimerName, L1, L2, L3, L4, L6, L7, T1, T2, T3, T4, T6, T8, T10, Slt1, Slt2, NodeCounts, Key, key, key_of, is_key_before, is_before, each, each_in_rows, names_by_kind, names_of, AreInOrder}
use Rattle.timers.proofs.Elements.{all-append, all-weaker}
use Rattle.timers.proofs.NamesOf.{◌&◌, all-each, all-rows, rows, joined}

-- ---- they rise

rises-append : (xs ys : List TimerName) → AreInOrder xs → AreInOrder ys → AllByRecursion (λ x. AllByRecursion (λ y. is_before x y ≡ true) ys) xs → AreInOrder (xs ++ ys)
rises-append [] ys r s h = s
rises-append (x ∷ xs) ys r s h = (all-append (λ y. is_before x y ≡ true) xs ys r.0 h.0, rises-append xs ys r.1 s h.1)

rises-each : (name : ℕ → TimerName) (a count : ℕ) → ((i j : ℕ) → i < j → is_before (name i) (name j) ≡ true) → AreInOrder (map name (range_with_len a count))
rises-each name a zero h = tt
rises-each name a (suc count) h = (all-each (λ y. is_before (name a) y ≡ true) name (a + 1) count (λ j l k. h a j (omega (arith, l))), rises-each name (a + 1) count h)

rises-rows : (name : ℕ → ℕ → TimerName) (a count columns : ℕ) → ((i c d : ℕ) → c < d → is_before (name i c) (name i d) ≡ true) → ((i j c d : ℕ) → i < j → is_before (name i c) (name j d) ≡ true)
    → AreInOrder (rows name a count columns)
rises-rows name a zero columns within across = tt
rises-rows name a (suc count) columns within across =
    rises-append (each (name a) columns) (rows name (a + 1) count columns)
    (rises-each (name a) 0 columns (within a))
    (rises-rows name (a + 1) count columns within across)
    (all-each (λ x. AllByRecursion (λ y. is_before x y ≡ true) (rows name (a + 1) count columns)) (name a) 0 columns
    (λ c l k. all-rows (λ y. is_before (name a c) y ≡ true) name (a + 1) count columns (λ i j l k m. across a i c j (omega (arith, l)))))

-- the names of one kind
record IsPiece (kind : ℕ) (names : List TimerName) : Type 0 where
  pub rise : AreInOrder names
  pub kind_is : AllByRecursion (λ x. (key_of x).kind ≡ kind) names

abbrev ArePieces : ℕ → List (List TimerName) → Type 0
ArePieces kind [] = Unit {0}
ArePieces kind (names ∷ pieces) = IsPiece kind names × ArePieces (kind + 1) pieces

behind : (kind : ℕ) (pieces : List (List TimerName)) → ArePieces kind pieces → AllByRecursion (λ x. kind ≤ (key_of x).kind) (joined pieces)
behind kind [] p = tt
behind kind (names ∷ pieces) p =
    all-append (λ x. kind ≤ (key_of x).kind) names (joined pieces)
    (all-weaker (λ x. (key_of x).kind ≡ kind) (λ x. kind ≤ (key_of x).kind) (λ x e. omega (arith, e)) names p.0.kind_is)
    (all-weaker (λ x. kind + 1 ≤ (key_of x).kind) (λ x. kind ≤ (key_of x).kind) (λ x e. omega (arith, e)) (joined pieces) (behind (kind + 1) pieces p.1))

kind-before : (x y : Key) → x.kind < y.kind → is_key_before x y ≡ true
kind-before x y h = grind (arith, nat_tests)

rises-joined : (kind : ℕ) (pieces : List (List TimerName)) → ArePieces kind pieces → AreInOrder (joined pieces)
rises-joined kind [] p = tt
rises-joined kind (names ∷ pieces) p =
    let later = behind (kind + 1) pieces p.1 in
    rises-append names (joined pieces) p.0.rise (rises-joined (kind + 1) pieces p.1)
    (all-weaker (λ x. (key_of x).kind ≡ kind) (λ x. AllByRecursion (λ y. is_before x y ≡ true) (joined pieces))
    (λ x e. all-weaker (λ y. kind + 1 ≤ (key_of y).kind) (λ y. is_before x y ≡ true) (λ y l. kind-before (key_of x) (key_of y) (omega (arith, e, l))) (joined pieces) later) names p.0.kind_is)

row-before : (kind i j c d : ℕ) → i < j → is_key_before (key kind i c) (key kind j d) ≡ true
row-before kind i j c d h = grind (arith, nat_tests)

column-before : (kind i c d : ℕ) → c < d → is_key_before (key kind i c) (key kind i d) ≡ true
column-before kind i c d h = grind (arith, nat_tests)

by-keys : (x y : TimerName) (p q : Key) → key_of x ≡ p → key_of y ≡ q → is_key_before p q ≡ true → is_before x y ≡ true
by-keys x y p q e f h = ap (λ k. is_key_before k (key_of y)) e ∙ ap (λ k. is_key_before p k) f ∙ h

of_each : (name : ℕ → TimerName) (kind count : ℕ) → ((i : ℕ) → key_of (name i) ≡ key kind i 0) → IsPiece kind (each name count)
of_each name kind count e = record {
  rise = rises-each name 0 count (λ i j l. by-keys (name i) (name j) (key kind i 0) (key kind j 0) (e i) (e j) (row-before kind i j 0 0 l));
  kind_is = all-each (λ x. (key_of x).kind ≡ kind) name 0 count (λ i l k. ap (λ (x : Key). x.kind) (e i));
}

of_rows : (name : ℕ → ℕ → TimerName) (kind count columns : ℕ) → ((i j : ℕ) → key_of (name i j) ≡ key kind i j) → IsPiece kind (each_in_rows name count columns)
of_rows name kind count columns e = record {
  rise = rises-rows name 0 count columns
      (λ i c d l. by-keys (name i c) (name i d) (key kind i c) (key kind i d) (e i c) (e i d) (column-before kind i c d l))
      (λ i j c d l. by-keys (name i c) (name j d) (key kind i c) (key kind j d) (e i c) (e j d) (row-before kind i j c d l));
  kind_is = all-rows (λ x. (key_of x).kind ≡ kind) name 0 count columns (λ i j l k m. ap (λ (x : Key). x.kind) (e i j));
}

in_pieces : (n : NodeCounts) → ArePieces 0 (names_by_kind n)
in_pieces n =
    of_each (λ link. L1 link) 0 n.links (λ i. refl)
    & of_each (λ link. L2 link) 1 n.links (λ i. refl)
    & of_each (λ link. L3 link) 2 n.links (λ i. refl)
    & of_each (λ link. L4 link) 3 n.links (λ i. refl)
    & of_each (λ link. L6 link) 4 n.links (λ i. refl)
    & of_each (λ link. L7 link) 5 n.links (λ i. refl)
    & of_each (λ link. T1 link) 6 n.links (λ i. refl)
    & of_each (λ link. T2 link) 7 n.links (λ i. refl)
    & of_each (λ link. T3 link) 8 n.links (λ i. refl)
    & of_rows (λ set code. T4 set code) 9 n.sets 16 (λ i j. refl)
    & of_each (λ destination. T6 destination) 10 n.destinations (λ i. refl)
    & of_rows (λ set destination. T8 set destination) 11 n.sets n.destinations (λ i j. refl)
    & of_rows (λ set destination. T10 set destination) 12 n.sets n.destinations (λ i j. refl)
    & of_each (λ link. Slt1 link) 13 n.links (λ i. refl)
    & of_each (λ link. Slt2 link) 14 n.links (λ i. refl)
    & tt

pub names-rise : (n : NodeCounts) → AreInOrder (names_of n)
unfolding names_of
names-rise n = rises-joined 0 (names_by_kind n) (in_pieces n)
