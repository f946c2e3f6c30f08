-- The indices of a node's timers rise in the order of names, and there are as many as names.
use Rattle.timers.proofs.Basics.{◌≡◌, ℕ, zero, suc, ◌+◌, ◌*◌, ◌<◌, ◌≤◌, true, List, [], ◌∷◌, take, get_or, inl, inr, refl, ap, ◌∙◌, arith, mul-le-mul_right, cases_order, nat_tests, TimerName, L1, L2, L3, L4, L6, L7, T1, T2, T3, T4, T6, T8, T10, Slt1, Slt2, NodeCounts, Key, key, key_of, is_key_before, is_before, has_name, count_of, place_in, ltb-true}
use Rattle.timers.proofs.Elements.{two_below, in_table}

-- how many names each kind has, and how many columns its table of names has
abbrev pub sizes : NodeCounts → List ℕ
sizes n =
    n.links ∷ n.links ∷ n.links ∷ n.links ∷ n.links ∷ n.links ∷ n.links ∷ n.links ∷ n.links
    ∷ n.sets * 16 ∷ n.destinations ∷ n.sets * n.destinations ∷ n.sets * n.destinations ∷ n.links ∷ n.links ∷ []

-- the sum of a list
abbrev pub total : List ℕ → ℕ
total [] = 0
total (x ∷ xs) = x + total xs

abbrev pub widths : NodeCounts → List ℕ
widths n = 1 ∷ 1 ∷ 1 ∷ 1 ∷ 1 ∷ 1 ∷ 1 ∷ 1 ∷ 1 ∷ 16 ∷ 1 ∷ n.destinations ∷ n.destinations ∷ 1 ∷ 1 ∷ []

abbrev pub front : NodeCounts → Key → ℕ
front n k = total (take k.kind (sizes n))

abbrev pub width : NodeCounts → Key → ℕ
width n k = get_or (widths n) k.kind 0

abbrev pub number_of : NodeCounts → Key → ℕ
number_of n k = front n k + (k.row * width n k + k.column)

pub record IsWithin (n : NodeCounts) (k : Key) : Type 0 where
  pub kind : k.kind < 15
  pub column : k.column < width n k
  pub place : k.row * width n k + k.column < get_or (sizes n) k.kind 0

-- ---- arithmetic

same_row : (s w r c t v q d : ℕ) → s ≡ t → w ≡ v → r ≡ q → c < d → s + (r * w + c) < t + (q * v + d)
same_row s w r c t v q d e f g h =
    let m : r * w ≡ q * v = λ i. g i * f i in
    omega (arith, m)

lower_row : (s w r c t v q d : ℕ) → s ≡ t → w ≡ v → r < q → c < w → s + (r * w + c) < t + (q * v + d)
lower_row s w r c t v q d e f g h =
    let whole : r + 1 ≤ q = omega arith in
    let m : q * w ≡ q * v = ap (λ x. q * x) f in
    omega (arith, m, mul-le-mul_right w whole)

total-front : (xs : List ℕ) (k m : ℕ) → k < m → total (take k xs) + get_or xs k 0 ≤ total (take m xs)
total-front [] zero zero h = let goal : 0 + 0 ≤ 0 = omega arith in goal
total-front [] zero (suc m) h = let goal : 0 + 0 ≤ 0 = omega arith in goal
total-front [] (suc k) zero h = let goal : 0 + 0 ≤ 0 = omega arith in goal
total-front [] (suc k) (suc m) h = let goal : 0 + 0 ≤ 0 = omega arith in goal
total-front (x ∷ xs) zero zero h = absurd (omega arith)
total-front (x ∷ xs) zero (suc m) h =
    let rest = total (take m xs) in
    let goal : 0 + x ≤ x + rest = omega arith in
    goal
total-front (x ∷ xs) (suc k) zero h = absurd (omega arith)
total-front (x ∷ xs) (suc k) (suc m) h =
    let rest = total-front xs k m (omega arith) in
    let goal : (x + total (take k xs)) + get_or xs k 0 ≤ x + total (take m xs) = omega arith in
    goal

all_sizes : (n : NodeCounts) → total (take 15 (sizes n)) ≡ count_of n
all_sizes n = omega arith

-- ---- names

of_link : (n : NodeCounts) (kind link : ℕ) → kind < 15 → link < n.links → get_or (widths n) kind 0 ≡ 1 → get_or (sizes n) kind 0 ≡ n.links → IsWithin n (key kind link 0)
of_link n kind link k h w s =
    let m : link * get_or (widths n) kind 0 ≡ link = ap (λ x. link * x) w ∙ omega arith in
    record { kind = omega arith; column = omega (arith, w); place = omega (arith, m, s) }

pub within : (n : NodeCounts) (name : TimerName) → has_name n name ≡ true → IsWithin n (key_of name)
within n (L1 link) h = of_link n 0 link (omega arith) (ltb-true link n.links h) refl refl
within n (L2 link) h = of_link n 1 link (omega arith) (ltb-true link n.links h) refl refl
within n (L3 link) h = of_link n 2 link (omega arith) (ltb-true link n.links h) refl refl
within n (L4 link) h = of_link n 3 link (omega arith) (ltb-true link n.links h) refl refl
within n (L6 link) h = of_link n 4 link (omega arith) (ltb-true link n.links h) refl refl
within n (L7 link) h = of_link n 5 link (omega arith) (ltb-true link n.links h) refl refl
within n (T1 link) h = of_link n 6 link (omega arith) (ltb-true link n.links h) refl refl
within n (T2 link) h = of_link n 7 link (omega arith) (ltb-true link n.links h) refl refl
within n (T3 link) h = of_link n 8 link (omega arith) (ltb-true link n.links h) refl refl
within n (T4 set code) h =
    let p = two_below set n.sets code 16 h in
    record { kind = omega arith; column = p.1; place = in_table set code n.sets 16 p.0 p.1 }
within n (T6 destination) h =
    let d = ltb-true destination n.destinations h in
    record { kind = omega arith; column = omega arith; place = omega (arith, d) }
within n (T8 set destination) h =
    let p = two_below set n.sets destination n.destinations h in
    record { kind = omega arith; column = p.1; place = in_table set destination n.sets n.destinations p.0 p.1 }
within n (T10 set destination) h =
    let p = two_below set n.sets destination n.destinations h in
    record { kind = omega arith; column = p.1; place = in_table set destination n.sets n.destinations p.0 p.1 }
within n (Slt1 link) h = of_link n 13 link (omega arith) (ltb-true link n.links h) refl refl
within n (Slt2 link) h = of_link n 14 link (omega arith) (ltb-true link n.links h) refl refl

-- ---- the order of names is that of their numbers

rising : (n : NodeCounts) (x y : Key) → IsWithin n x → IsWithin n y → is_key_before x y ≡ true → number_of n x < number_of n y
rising n x y p q h =
    elim (cases_order x.kind y.kind) [
      | inl same ↦
          let s : front n x ≡ front n y = ap (λ (k : ℕ). total (take k (sizes n))) same in
          let w : width n x ≡ width n y = ap (λ (k : ℕ). get_or (widths n) k 0) same in
          elim (cases_order x.row y.row) [
            | inl row ↦
                let c : x.column < y.column = column_below x y h same row in
                same_row (front n x) (width n x) x.row x.column (front n y) (width n y) y.row y.column s w row c
            | inr (inl lower) ↦ lower_row (front n x) (width n x) x.row x.column (front n y) (width n y) y.row y.column s w lower p.column
            | inr (inr higher) ↦ absurd (no_higher_row x y h same higher)
          ]
      | inr (inl lower) ↦
          let f = total-front (sizes n) x.kind y.kind lower in
          let l = p.place in
          omega arith
      | inr (inr higher) ↦ absurd (no_higher_kind x y h higher)
    ]
  where
    column_below : (x y : Key) → is_key_before x y ≡ true → x.kind ≡ y.kind → x.row ≡ y.row → x.column < y.column
    column_below x y h same row = grind (arith, nat_tests)

    no_higher_row : (x y : Key) → is_key_before x y ≡ true → x.kind ≡ y.kind → y.row < x.row → ⊥
    no_higher_row x y h same higher = grind (arith, nat_tests)

    no_higher_kind : (x y : Key) → is_key_before x y ≡ true → y.kind < x.kind → ⊥
    no_higher_kind x y h higher = grind (arith, nat_tests)

-- ---- the place of a name is its number

place-number : (n : NodeCounts) (name : TimerName) → place_in n name ≡ number_of n (key_of name)
place-number n (L1 link) = omega arith
place-number n name = omega arith

pub place-fits : (n : NodeCounts) (name : TimerName) → has_name n name ≡ true → place_in n name < count_of n
place-fits n name h =
    let w = within n name h in
    let k = (key_of name).kind in
    let row = w.place in
    omega (arith, row, total-front (sizes n) k 15 w.kind, all_sizes n, place-number n name)

pub place-rises : (n : NodeCounts) (x y : TimerName) → has_name n x ≡ true → has_name n y ≡ true → is_before x y ≡ true → place_in n x < place_in n y
place-rises n x y h k before =
    omega (arith, rising n (key_of x) (key_of y) (within n x h) (within n y k) before, place-number n x, place-number n y)
