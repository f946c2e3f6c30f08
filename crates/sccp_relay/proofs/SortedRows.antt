-- Rows that were sorted are those of the table into which they are put one by one.
use Rattle.sccp_relay.proofs.Basics.{◌≡◌, ℕ, zero, suc, ◌<◌, ◌≤◌, Bool, true, false, List, [], ◌∷◌, ◌++◌, length, get_or, refl, sym, ap, subst, ◌∙◌, ◌⊎◌, inl, inr, cond, arith, sorted_far, ranks_by, Contains-permutation, IsPermutation-sym, IsDistinct-IsPermutation, IsDistinct-head, IsDistinct-tail, is_eq-slice_cmp, AllByRecursion, Contains, IsDistinct, filter, IsPermutation, IsSortedBy, is_lt, is_eq, is_gt, ordering_reverse, Ordering, Less, Equal, Greater, TitleEntry, row_place, place_order, is_before, is_behind, IsOrdered, with_row, table_of, is_same_place}
use Rattle.sccp_relay.proofs.RowOrder.{total, reversed, greater-neither, ordered-with_row}

-- ---- which rows stand in a list

abbrev Has : TitleEntry → List TitleEntry → Type 0
Has row [] = ⊥
Has row (first ∷ rest) = (first ≡ row) ⊎ Has row rest

has-left : (row : TitleEntry) (xs ys : List TitleEntry) → Has row xs → Has row (xs ++ ys)
has-left row [] ys h = absurd h
has-left row (x ∷ xs) ys (inl e) = inl e
has-left row (x ∷ xs) ys (inr h) = inr (has-left row xs ys h)

has-right : (row : TitleEntry) (xs ys : List TitleEntry) → Has row ys → Has row (xs ++ ys)
has-right row [] ys h = h
has-right row (x ∷ xs) ys h = inr (has-right row xs ys h)

has-either : (row : TitleEntry) (xs ys others : List TitleEntry) → ((row : TitleEntry) → Has row xs → Has row others) → ((row : TitleEntry) → Has row ys → Has row others) → Has row (xs ++ ys) → Has row others
has-either row [] ys others f g h = g row h
has-either row (x ∷ xs) ys others f g (inl e) = f row (inl e)
has-either row (x ∷ xs) ys others f g (inr h) = has-either row xs ys others (λ row k. f row (inr k)) g h

has-kept : (row x : TitleEntry) (xs rest : List TitleEntry) (b : Bool) → (Has row rest → Has row xs) → Has row (cond b (x ∷ rest) rest) → Has row (x ∷ xs)
has-kept row x xs rest true f (inl e) = inl e
has-kept row x xs rest true f (inr h) = inr (f h)
has-kept row x xs rest false f h = inr (f h)

has-unfiltered : (test : TitleEntry → Bool) (row : TitleEntry) (xs : List TitleEntry) → Has row (filter test xs) → Has row xs
has-unfiltered test row [] h = h
has-unfiltered test row (x ∷ xs) h = has-kept row x xs (filter test xs) (test x) (has-unfiltered test row xs) h

past : (row x : TitleEntry) (rest : List TitleEntry) (b : Bool) → Has row rest → Has row (cond b (x ∷ rest) rest)
past row x rest true h = inr h
past row x rest false h = h

first-kept : (row x : TitleEntry) (rest : List TitleEntry) (b : Bool) → b ≡ true → x ≡ row → Has row (cond b (x ∷ rest) rest)
first-kept row x rest true t e = inl e
first-kept row x rest false t e = absurd cc

has-filtered : (test : TitleEntry → Bool) (row : TitleEntry) (xs : List TitleEntry) → test row ≡ true → Has row xs → Has row (filter test xs)
has-filtered test row [] t h = h
has-filtered test row (x ∷ xs) t (inl e) = first-kept row x (filter test xs) (test x) (ap test e ∙ t) e
has-filtered test row (x ∷ xs) t (inr h) = past row x (filter test xs) (test x) (has-filtered test row xs t h)

has-all : (P : TitleEntry → Type 0) (row : TitleEntry) (xs : List TitleEntry) → AllByRecursion P xs → Has row xs → P row
has-all P row [] a h = absurd h
has-all P row (x ∷ xs) a (inl e) = subst P e a.0
has-all P row (x ∷ xs) a (inr h) = has-all P row xs a.1 h

all-has : (P : TitleEntry → Type 0) (xs : List TitleEntry) → ((row : TitleEntry) → Has row xs → P row) → AllByRecursion P xs
all-has P [] h = tt
all-has P (x ∷ xs) h = (h x (inl refl), all-has P xs (λ row k. h row (inr k)))

has-at : (xs : List TitleEntry) (k : ℕ) (row : TitleEntry) → k < length xs → get_or xs k row ≡ row → Has row xs
has-at [] k row lt e = absurd (omega (arith, lt))
has-at (x ∷ xs) zero row lt e = inl e
has-at (x ∷ xs) (suc k) row lt e = inr (has-at xs k row (omega (arith, lt)) e)

contains-has : (xs : List TitleEntry) (row : TitleEntry) → Has row xs → Contains xs row
contains-has [] row h = absurd h
contains-has (x ∷ xs) row (inl e) = (0, omega arith, e)
contains-has (x ∷ xs) row (inr h) = let c = contains-has xs row h in (suc c.0, omega (arith, c.1), c.2)

-- ---- two lists in order that have the same rows are the same

abbrev Within : List TitleEntry → List TitleEntry → Type 0
Within xs ys = (row : TitleEntry) → Has row xs → Has row ys

abbrev AllBehind : TitleEntry → List TitleEntry → Type 0
AllBehind row rows = AllByRecursion (λ other. place_order (row_place row) (row_place other) ≡ Less) rows

never : (a b : List ℕ) → place_order a b ≡ Less → place_order b a ≡ Less → ⊥
never a b e f = let g : Less ≡ Greater = sym f ∙ reversed a b Less e in cc

heads : (x y : TitleEntry) (xs ys : List TitleEntry) → AllBehind x xs → AllBehind y ys → Has x (y ∷ ys) → Has y (x ∷ xs) → y ≡ x
heads x y xs ys a b (inl e) k = e
heads x y xs ys a b (inr h) (inl e) = sym e
heads x y xs ys a b (inr h) (inr k) =
    absurd (never (row_place x) (row_place y) (has-all (λ other. place_order (row_place x) (row_place other) ≡ Less) y xs a k) (has-all (λ other. place_order (row_place y) (row_place other) ≡ Less) x ys b h))

not-first : (x row : TitleEntry) (xs ys : List TitleEntry) → AllBehind x xs → Has row xs → Has row (x ∷ ys) → Has row ys
not-first x row xs ys a h (inl e) =
    let f : place_order (row_place x) (row_place x) ≡ Less = has-all (λ other. place_order (row_place x) (row_place other) ≡ Less) x xs a (subst (λ (r : TitleEntry). Has r xs) (sym e) h) in
    absurd (never (row_place x) (row_place x) f f)
not-first x row xs ys a h (inr k) = k

same-rows : (xs ys : List TitleEntry) → IsOrdered xs → IsOrdered ys → Within xs ys → Within ys xs → xs ≡ ys
same-rows [] [] h k v w = refl
same-rows [] (y ∷ ys) h k v w = absurd (w y (inl refl))
same-rows (x ∷ xs) [] h k v w = absurd (v x (inl refl))
same-rows (x ∷ xs) (y ∷ ys) h k v w =
    let e : y ≡ x = heads x y xs ys h.0 k.0 (v x (inl refl)) (w y (inl refl)) in
    let b : AllBehind x ys = subst (λ (r : TitleEntry). AllBehind r ys) e k.0 in
    let there : Within (x ∷ xs) (x ∷ ys) = subst (λ (r : TitleEntry). Within (x ∷ xs) (r ∷ ys)) e v in
    let back : Within (x ∷ ys) (x ∷ xs) = subst (λ (r : TitleEntry). Within (r ∷ ys) (x ∷ xs)) e w in
    let rest : xs ≡ ys = same-rows xs ys h.1 k.1 (λ row p. not-first x row xs ys h.0 p (there row (inr p))) (λ row p. not-first x row ys xs b p (back row (inr p))) in
    cc

-- ---- rows at one place

eq-reverse : (o : Ordering) → is_eq (ordering_reverse o) ≡ is_eq o
eq-reverse Less = refl
eq-reverse o = refl

eq-turned : (a b : List ℕ) → is_eq (place_order a b) ≡ is_eq (place_order b a)
eq-turned a b = ap is_eq (total.antisymm a b) ∙ eq-reverse (place_order b a)

at-same : (row other : TitleEntry) → is_eq (place_order (row_place other) (row_place row)) ≡ is_same_place row other
at-same row other = eq-turned (row_place other) (row_place row) ∙ is_eq-slice_cmp (row_place row) (row_place other)

flips : (row other : TitleEntry) → is_same_place row other ≡ is_same_place other row
flips row other = sym (at-same row other) ∙ is_eq-slice_cmp (row_place other) (row_place row)

-- ---- rows that were put in one by one

-- a row at another index comes before or after
beside : (place : List ℕ) (row : TitleEntry) (front back : List TitleEntry) (mid : TitleEntry) (o : Ordering) → is_eq o ≡ false → (is_lt o ≡ true → Has row front) → (is_gt o ≡ true → Has row back) → Has row (front ++ mid ∷ back)
beside place row front back mid Less e f g = has-left row front (mid ∷ back) (f refl)
beside place row front back mid Equal e f g = absurd cc
beside place row front back mid Greater e f g = has-right row front (mid ∷ back) (inr (g refl))

put-in : (row : TitleEntry) (rows : List TitleEntry) → AllByRecursion (λ other. is_same_place row other ≡ false) rows → Within (row ∷ rows) (with_row row rows)
put-in row rows a other (inl e) = has-right other (filter (is_before (row_place row)) rows) (row ∷ filter (is_behind (row_place row)) rows) (inl e)
put-in row rows a other (inr h) =
    beside (row_place row) other (filter (is_before (row_place row)) rows) (filter (is_behind (row_place row)) rows) row (place_order (row_place other) (row_place row))
    (at-same row other ∙ has-all (λ other. is_same_place row other ≡ false) other rows a h)
    (λ t. has-filtered (is_before (row_place row)) other rows t h)
    (λ t. has-filtered (is_behind (row_place row)) other rows t h)

behind-first : (row : TitleEntry) (rows : List TitleEntry) → Within (row ∷ filter (is_behind (row_place row)) rows) (row ∷ rows)
behind-first row rows other (inl e) = inl e
behind-first row rows other (inr h) = inr (has-unfiltered (is_behind (row_place row)) other rows h)

was-put-in : (row : TitleEntry) (rows : List TitleEntry) → Within (with_row row rows) (row ∷ rows)
was-put-in row rows other h =
    has-either other (filter (is_before (row_place row)) rows) (row ∷ filter (is_behind (row_place row)) rows) (row ∷ rows)
    (λ r k. inr (has-unfiltered (is_before (row_place row)) r rows k)) (behind-first row rows) h

behind-row : (row : TitleEntry) (xs ys : List TitleEntry) → Within xs ys → Within (row ∷ xs) (row ∷ ys)
behind-row row xs ys f other (inl e) = inl e
behind-row row xs ys f other (inr h) = inr (f other h)

in-rows : (rows : List TitleEntry) → Within (table_of rows) rows
in-rows [] other h = h
in-rows (row ∷ rows) other h = behind-row row (table_of rows) rows (in-rows rows) other (was-put-in row (table_of rows) other h)

in-table : (rows : List TitleEntry) → IsDistinct is_same_place rows → Within rows (table_of rows)
in-table [] d other h = h
in-table (row ∷ rows) d other h =
    put-in row (table_of rows)
    (all-has (λ other. is_same_place row other ≡ false) (table_of rows) (λ r k. has-all (λ other. is_same_place row other ≡ false) r rows (IsDistinct-head is_same_place row rows d) (in-rows rows r k)))
    other (behind-row row rows (table_of rows) (in-table rows (IsDistinct-tail is_same_place row rows d)) other h)

pub ordered-table : (rows : List TitleEntry) → IsOrdered (table_of rows)
ordered-table [] = tt
ordered-table (row ∷ rows) = ordered-with_row row (table_of rows) (ordered-table rows)

-- ---- rows that were sorted

abbrev pub comes_first : TitleEntry → TitleEntry → Bool
comes_first row other = is_lt (place_order (row_place row) (row_place other))

one-behind : (x y : TitleEntry) → is_same_place x y ≡ false → comes_first y x ≡ false → place_order (row_place x) (row_place y) ≡ Less
one-behind x y e f = reversed (row_place y) (row_place x) Greater (greater-neither _ f (at-same x y ∙ e))

sorted-behind : (x : TitleEntry) (xs : List TitleEntry) → AllByRecursion (λ other. is_same_place x other ≡ false) xs → ((k : ℕ) → k < length xs → comes_first (get_or xs k x) x ≡ false) → AllBehind x xs
sorted-behind x [] a h = tt
sorted-behind x (y ∷ ys) a h = (one-behind x y a.0 (h 0 (omega arith)), sorted-behind x ys a.1 (λ k lt. h (suc k) (omega (arith, lt))))

ordered-sorted : (xs : List TitleEntry) → IsDistinct is_same_place xs → ((i j : ℕ) (d : TitleEntry) → i ≤ j → j < length xs → comes_first (get_or xs j d) (get_or xs i d) ≡ false) → IsOrdered xs
ordered-sorted [] d h = tt
ordered-sorted (x ∷ xs) d h = (
  sorted-behind x xs (IsDistinct-head is_same_place x xs d) (λ k lt. h 0 (suc k) x (omega arith) (omega (arith, lt))),
  ordered-sorted xs (IsDistinct-tail is_same_place x xs d) (λ i j e le lt. h (suc i) (suc j) e (omega (arith, le)) (omega (arith, lt))),
)

pub sorted-table : (rows sorted : List TitleEntry) → IsDistinct is_same_place rows → IsPermutation rows sorted → IsSortedBy comes_first sorted → sorted ≡ table_of rows
sorted-table rows sorted d p s =
    let apart : IsDistinct is_same_place sorted = IsDistinct-IsPermutation is_same_place flips rows sorted p d in
    let far = sorted_far comes_first (ranks_by total row_place) sorted s in
    same-rows sorted (table_of rows) (ordered-sorted sorted apart far) (ordered-table rows)
    (λ row h. in-table rows d row (let c = Contains-permutation sorted rows row (IsPermutation-sym rows sorted p) (contains-has sorted row h) in has-at rows c.0 row c.1 c.2))
    (λ row h. let c = Contains-permutation rows sorted row p (contains-has rows row (in-rows rows row h)) in has-at sorted c.0 row c.1 c.2)
