-- Sorted rows, before an index, at it and after it.
use Rattle.sccp_relay.proofs.Basics.{◌≡◌, ℕ, zero, suc, ◌<◌, ◌≤◌, Bool, true, false, not, List, [], ◌∷◌, ◌++◌, length, get_or, take, drop, refl, sym, ap, subst, ◌∙◌, ◌⊎◌, inl, inr, cond, drop-cons, arith, length-take-le, set, set_at, take-append-drop, append-nil, drop_all, filter-append, list_any-append, bytes_decides, is_eq-slice_cmp, nat_list_cmp_total, IsTotalOrder, AllByRecursion, AllWithin, filter, insert, remove, IsPartitionedBy, IsPartitionPoint, is_lt, is_eq, is_gt, ordering_reverse, Ordering, Less, Equal, Greater, TitleEntry, row_place, place_order, is_before, is_at, is_behind, IsOrdered, has_row, with_row, StandsAt, FitsAt}
use Rattle.std.proofs.lemmas.Option.{get_or_from_slice_get}

-- ---- the order of places

pub total : IsTotalOrder place_order
total = nat_list_cmp_total

pub reversed : (a b : List ℕ) (o : Ordering) → place_order a b ≡ o → place_order b a ≡ ordering_reverse o
reversed a b o e = total.antisymm b a ∙ ap ordering_reverse e

less-is_lt : (o : Ordering) → is_lt o ≡ true → o ≡ Less
less-is_lt Less e = refl
less-is_lt o e = absurd cc

-- what comes after an index that is another or after it, comes after that
less-then : (a b c : List ℕ) → place_order a b ≡ Less → place_order b c ≡ Less → place_order a c ≡ Less
less-then a b c e f = total.trans a b c e f

greater-then : (a b c : List ℕ) → place_order b a ≡ Less → (place_order b c ≡ Equal) ⊎ (place_order b c ≡ Greater) → place_order a c ≡ Greater
greater-then a b c e (inl f) = reversed c a Less (sym (total.congr b c a f) ∙ e)
greater-then a b c e (inr f) = reversed c a Less (total.trans c b a (reversed b c Greater f) e)

pub each-at : (P : TitleEntry → Type 0) (rows : List TitleEntry) → AllByRecursion P rows → (k : ℕ) (d : TitleEntry) → k < length rows → P (get_or rows k d)
each-at P [] h k d lt = absurd (omega (arith, lt))
each-at P (row ∷ rows) h zero d lt = h.0
each-at P (row ∷ rows) h (suc k) d lt = each-at P rows h.1 k d (omega (arith, lt))

-- no row that comes before a place comes after one that doesn't
pub partitioned : (place : List ℕ) (rows : List TitleEntry) → IsOrdered rows → IsPartitionedBy (is_before place) rows
partitioned place [] h i j d le lt e = absurd (omega (arith, lt))
partitioned place (row ∷ rows) h zero zero d le lt e = e
partitioned place (row ∷ rows) h zero (suc j) d le lt e =
    let first : place_order (row_place row) (row_place (get_or rows j d)) ≡ Less = each-at _ rows h.0 j d (omega (arith, lt)) in
    ap is_lt (less-then (row_place row) (row_place (get_or rows j d)) place first (less-is_lt _ e))
partitioned place (row ∷ rows) h (suc i) zero d le lt e = absurd (omega (arith, le))
partitioned place (row ∷ rows) h (suc i) (suc j) d le lt e = partitioned place rows h.1 i j d (omega (arith, le)) (omega (arith, lt)) e

-- ---- the rows before an index, and those after it

abbrev pub AreBefore : List ℕ → List TitleEntry → Type 0
AreBefore place rows = AllByRecursion (λ row. place_order (row_place row) place ≡ Less) rows

abbrev pub AreBehind : List ℕ → List TitleEntry → Type 0
AreBehind place rows = AllByRecursion (λ row. place_order (row_place row) place ≡ Greater) rows

-- which of the rows come before the index, which after it, which elsewhere, and whether one is at it
pub record Tells (place : List ℕ) (rows front back elsewhere : List TitleEntry) (there : Bool) : Type 0 where
  pub before : filter (is_before place) rows ≡ front
  pub behind : filter (is_behind place) rows ≡ back
  pub other : filter (λ row. not (is_at place row)) rows ≡ elsewhere
  pub found : has_row rows place ≡ there

tells-before : (place : List ℕ) (rows : List TitleEntry) → AreBefore place rows → Tells place rows rows [] rows false
tells-before place [] h = record { before = refl; behind = refl; other = refl; found = refl }
tells-before place (row ∷ rows) h =
    let t = tells-before place rows h.1 in
    record {
      before = rw h.0 (ap (λ (rows : List TitleEntry). row ∷ rows) t.before);
      behind = rw h.0 t.behind;
      other = rw h.0 (ap (λ (rows : List TitleEntry). row ∷ rows) t.other);
      found = rw h.0 t.found;
    }

pub tells-behind : (place : List ℕ) (rows : List TitleEntry) → AreBehind place rows → Tells place rows [] rows rows false
tells-behind place [] h = record { before = refl; behind = refl; other = refl; found = refl }
tells-behind place (row ∷ rows) h =
    let t = tells-behind place rows h.1 in
    record {
      before = rw h.0 t.before;
      behind = rw h.0 (ap (λ (rows : List TitleEntry). row ∷ rows) t.behind);
      other = rw h.0 (ap (λ (rows : List TitleEntry). row ∷ rows) t.other);
      found = rw h.0 t.found;
    }

tells-at : (place : List ℕ) (row : TitleEntry) (rows : List TitleEntry) → place_order (row_place row) place ≡ Equal → AreBehind place rows → Tells place (row ∷ rows) [] rows rows true
tells-at place row rows e h =
    let t = tells-behind place rows h in
    record { before = rw e t.before; behind = rw e t.behind; other = rw e t.other; found = rw e refl }

tells-append : (place : List ℕ) (xs a b c ys d e f : List TitleEntry) (there : Bool) → Tells place xs a b c false → Tells place ys d e f there
    → Tells place (xs ++ ys) (a ++ d) (b ++ e) (c ++ f) there
tells-append place xs a b c ys d e f there s t = record {
  before = rw (filter-append (is_before place) xs ys, s.before, t.before) refl;
  behind = rw (filter-append (is_behind place) xs ys, s.behind, t.behind) refl;
  other = rw (filter-append (λ row. not (is_at place row)) xs ys, s.other, t.other) refl;
  found = rw (list_any-append (is_at place) xs ys, s.found, t.found) refl;
}

pub all-behind : (place : List ℕ) (row : TitleEntry) (rows : List TitleEntry) → (place_order (row_place row) place ≡ Equal) ⊎ (place_order (row_place row) place ≡ Greater)
    → AllByRecursion (λ other. place_order (row_place row) (row_place other) ≡ Less) rows → AreBehind place rows
all-behind place row [] e h = tt
all-behind place row (other ∷ rows) e h = (greater-then (row_place other) (row_place row) place h.0 e, all-behind place row rows e h.1)

front-before : (place : List ℕ) (rows : List TitleEntry) (i : ℕ) → i ≤ length rows → AllWithin (λ row. is_before place row ≡ true) rows 0 i → AreBefore place (take i rows)
front-before place rows zero le h = tt
front-before place [] (suc i) le h = absurd (omega (arith, le))
front-before place (row ∷ rows) (suc i) le h =
    (less-is_lt _ (h 0 row (omega arith) (omega arith)), front-before place rows i (omega (arith, le)) (λ k d low high. h (suc k) d (omega arith) (omega (arith, high))))

ordered-drop : (rows : List TitleEntry) (i : ℕ) → IsOrdered rows → IsOrdered (drop i rows)
ordered-drop rows zero h = h
ordered-drop [] (suc i) h = tt
ordered-drop (row ∷ rows) (suc i) h = ordered-drop rows i h.1

-- a row at the index
pub tells-found : (place : List ℕ) (rows : List TitleEntry) (i : ℕ) (row : TitleEntry) → IsOrdered rows → AllWithin (λ row. is_before place row ≡ true) rows 0 i → i < length rows
    → row ≡ get_or rows i row → place_order (row_place row) place ≡ Equal → Tells place rows (take i rows ++ []) ([] ++ drop (suc i) rows) (remove rows i) true
tells-found place rows i row h within lt e at =
    let cut : drop i rows ≡ row ∷ drop (suc i) rows = drop-cons rows i row lt ∙ ap (λ (r : TitleEntry). r ∷ drop (suc i) rows) (sym e) in
    let behind = all-behind place row (drop (suc i) rows) (inl at) (subst IsOrdered cut (ordered-drop rows i h)).0 in
    let whole : take i rows ++ (row ∷ drop (suc i) rows) ≡ rows = ap (λ (r : List TitleEntry). take i rows ++ r) (sym cut) ∙ take-append-drop i rows in
    subst (λ (r : List TitleEntry). Tells place r (take i rows ++ []) ([] ++ drop (suc i) rows) (remove rows i) true) whole
    (tells-append place (take i rows) (take i rows) [] (take i rows) (row ∷ drop (suc i) rows) [] (drop (suc i) rows) (drop (suc i) rows) true
    (tells-before place (take i rows) (front-before place rows i (omega (arith, lt)) within))
    (tells-at place row (drop (suc i) rows) at behind))

from-first : (place : List ℕ) (rows : List TitleEntry) → IsOrdered rows → ((row : TitleEntry) (rest : List TitleEntry) → rows ≡ row ∷ rest → place_order (row_place row) place ≡ Greater) → AreBehind place rows
from-first place [] h first = tt
from-first place (row ∷ rows) h first = (first row rows refl, all-behind place row rows (inr (first row rows refl)) h.0)

-- no row is at the index
pub tells-free : (place : List ℕ) (rows : List TitleEntry) (i : ℕ) → IsOrdered rows → AllWithin (λ row. is_before place row ≡ true) rows 0 i → i ≤ length rows
    → ((row : TitleEntry) (rest : List TitleEntry) → drop i rows ≡ row ∷ rest → place_order (row_place row) place ≡ Greater)
    → Tells place rows (take i rows ++ []) ([] ++ drop i rows) (take i rows ++ drop i rows) false
tells-free place rows i h within le first =
    subst (λ (r : List TitleEntry). Tells place r (take i rows ++ []) ([] ++ drop i rows) (take i rows ++ drop i rows) false) (take-append-drop i rows)
    (tells-append place (take i rows) (take i rows) [] (take i rows) (drop i rows) [] (drop i rows) (drop i rows) false
    (tells-before place (take i rows) (front-before place rows i le within))
    (tells-behind place (drop i rows) (from-first place (drop i rows) (ordered-drop rows i h) first)))

abbrev pub Splits : List ℕ → List TitleEntry → ℕ → Type 0
Splits place rows i = IsPartitionPoint (λ row. is_before place row ≡ true) (λ row. is_before place row ≡ false) rows i

pub equal-is_eq : (o : Ordering) → is_eq o ≡ true → o ≡ Equal
equal-is_eq Equal e = refl
equal-is_eq o e = absurd cc

pub greater-neither : (o : Ordering) → is_lt o ≡ false → is_eq o ≡ false → o ≡ Greater
greater-neither Greater e f = refl
greater-neither o e f = absurd cc

replaced : (place : List ℕ) (rows : List TitleEntry) (i : ℕ) (old : TitleEntry) → Tells place rows (take i rows ++ []) ([] ++ drop (suc i) rows) (remove rows i) true
    → i < length rows → old ≡ get_or rows i old → (row : TitleEntry) → row_place row ≡ place → set rows i row ≡ with_row row rows
replaced place rows i old t lt e row at =
    let cut : drop i rows ≡ old ∷ drop (suc i) rows = drop-cons rows i old lt ∙ ap (λ (r : TitleEntry). r ∷ drop (suc i) rows) (sym e) in
    let whole : take i rows ++ (old ∷ drop (suc i) rows) ≡ rows = ap (λ (r : List TitleEntry). take i rows ++ r) (sym cut) ∙ take-append-drop i rows in
    ap (λ (r : List TitleEntry). set r i row) (sym whole) ∙ set_at (take i rows) old (drop (suc i) rows) row i (length-take-le i rows (omega (arith, lt)))
    ∙ sym (rw (at, t.before, t.behind, append-nil (take i rows)) refl)

pub stands-at : (place : List ℕ) (rows : List TitleEntry) (i : ℕ) (row : TitleEntry) → IsOrdered rows → Splits place rows i → i < length rows
    → row ≡ get_or rows i row → is_eq (place_order (row_place row) place) ≡ true → StandsAt rows place i
stands-at place rows i row h split lt e at =
    let t = tells-found place rows i row h split.0 lt e (equal-is_eq _ at) in
    let same : row_place row ≡ place = (bytes_decides (row_place row) place).0 (sym (is_eq-slice_cmp (row_place row) place) ∙ at) in
    record { within = lt; there = t.found; removed = sym t.other; replaced = replaced place rows i row t lt e; row = λ other f. ap row_place (sym (get_or_from_slice_get rows i other row f) ∙ sym e) ∙ same }

inserted : (place : List ℕ) (rows : List TitleEntry) (i : ℕ) → Tells place rows (take i rows ++ []) ([] ++ drop i rows) (take i rows ++ drop i rows) false
    → (row : TitleEntry) → row_place row ≡ place → insert rows i row ≡ with_row row rows
inserted place rows i t row e = sym (rw (e, t.before, t.behind, append-nil (take i rows)) refl)

pub fits-at : (place : List ℕ) (rows : List TitleEntry) (i : ℕ) (row : TitleEntry) → IsOrdered rows → Splits place rows i → i < length rows
    → row ≡ get_or rows i row → is_eq (place_order (row_place row) place) ≡ false → FitsAt rows place i
fits-at place rows i row h split lt e not_at =
    let before : is_before place row ≡ false = subst (λ (r : TitleEntry). is_before place r ≡ false) (sym e) (split.1 i row (omega arith) lt) in
    let cut : drop i rows ≡ row ∷ drop (suc i) rows = drop-cons rows i row lt ∙ ap (λ (r : TitleEntry). r ∷ drop (suc i) rows) (sym e) in
    let t = tells-free place rows i h split.0 (omega (arith, lt)) (λ first rest same. let one : row ≡ first = cc in subst (λ (r : TitleEntry). place_order (row_place r) place ≡ Greater) one (greater-neither _ before not_at)) in
    record { within = omega (arith, lt); free = t.found; inserted = inserted place rows i t }

pub fits-end : (place : List ℕ) (rows : List TitleEntry) (i : ℕ) → IsOrdered rows → Splits place rows i → i ≡ length rows → FitsAt rows place i
fits-end place rows i h split e =
    let none : drop i rows ≡ [] = drop_all i rows (omega (arith, e)) in
    let t = tells-free place rows i h split.0 (omega (arith, e)) (λ first rest same. absurd (let gone : [] ≡ first ∷ rest = sym none ∙ same in cc)) in
    record { within = omega (arith, e); free = t.found; inserted = inserted place rows i t }

-- ---- a row more, a row less

kept : (P : TitleEntry → Type 0) (b : Bool) (row : TitleEntry) (rest : List TitleEntry) → (b ≡ true → P row) → AllByRecursion P rest → AllByRecursion P (cond b (row ∷ rest) rest)
kept P true row rest p h = (p refl, h)
kept P false row rest p h = h

kept-all : (P : TitleEntry → Type 0) (test : TitleEntry → Bool) → ((row : TitleEntry) → test row ≡ true → P row) → (rows : List TitleEntry) → AllByRecursion P (filter test rows)
kept-all P test p [] = tt
kept-all P test p (row ∷ rows) = kept P (test row) row (filter test rows) (p row) (kept-all P test p rows)

filter-all : (P : TitleEntry → Type 0) (test : TitleEntry → Bool) (rows : List TitleEntry) → AllByRecursion P rows → AllByRecursion P (filter test rows)
filter-all P test [] h = tt
filter-all P test (row ∷ rows) h = kept P (test row) row (filter test rows) (λ e. h.0) (filter-all P test rows h.1)

kept-ordered : (b : Bool) (row : TitleEntry) (rest : List TitleEntry) → AllByRecursion (λ other. place_order (row_place row) (row_place other) ≡ Less) rest → IsOrdered rest
    → IsOrdered (cond b (row ∷ rest) rest)
kept-ordered true row rest a h = (a, h)
kept-ordered false row rest a h = h

pub ordered-filter : (test : TitleEntry → Bool) (rows : List TitleEntry) → IsOrdered rows → IsOrdered (filter test rows)
ordered-filter test [] h = tt
ordered-filter test (row ∷ rows) h = kept-ordered (test row) row (filter test rows) (filter-all _ test rows h.0) (ordered-filter test rows h.1)

all-append : (P : TitleEntry → Type 0) (xs ys : List TitleEntry) → AllByRecursion P xs → AllByRecursion P ys → AllByRecursion P (xs ++ ys)
all-append P [] ys h k = k
all-append P (x ∷ xs) ys h k = (h.0, all-append P xs ys h.1 k)

before-behind : (place : List ℕ) (row : TitleEntry) (rows : List TitleEntry) → place_order (row_place row) place ≡ Less → AreBehind place rows
    → AllByRecursion (λ other. place_order (row_place row) (row_place other) ≡ Less) rows
before-behind place row [] e h = tt
before-behind place row (other ∷ rows) e h = (less-then (row_place row) place (row_place other) e (reversed (row_place other) place Greater h.0), before-behind place row rows e h.1)

at-behind : (row : TitleEntry) (rows : List TitleEntry) → AreBehind (row_place row) rows → AllByRecursion (λ other. place_order (row_place row) (row_place other) ≡ Less) rows
at-behind row [] h = tt
at-behind row (other ∷ rows) h = (reversed (row_place other) (row_place row) Greater h.0, at-behind row rows h.1)

ordered-between : (xs ys : List TitleEntry) (row : TitleEntry) → IsOrdered xs → IsOrdered ys → AreBefore (row_place row) xs → AreBehind (row_place row) ys → IsOrdered (xs ++ row ∷ ys)
ordered-between [] ys row h k b c = (at-behind row ys c, k)
ordered-between (x ∷ xs) ys row h k b c =
    (all-append _ xs (row ∷ ys) h.0 (b.0, before-behind (row_place row) x ys b.0 c), ordered-between xs ys row h.1 k b.1 c)

is_gt-greater : (o : Ordering) → is_gt o ≡ true → o ≡ Greater
is_gt-greater Greater e = refl
is_gt-greater o e = absurd cc

pub ordered-with_row : (row : TitleEntry) (rows : List TitleEntry) → IsOrdered rows → IsOrdered (with_row row rows)
ordered-with_row row rows h =
    ordered-between (filter (is_before (row_place row)) rows) (filter (is_behind (row_place row)) rows) row (ordered-filter _ rows h) (ordered-filter _ rows h)
    (kept-all _ (is_before (row_place row)) (λ other e. less-is_lt _ e) rows)
    (kept-all _ (is_behind (row_place row)) (λ other e. is_gt-greater _ e) rows)
