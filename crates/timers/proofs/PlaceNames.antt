-- The name at a place, and the place of a name.
use Rattle.timers.proofs.Basics.{◌≡◌, ℕ, zero, suc, nat_lt, ◌+◌, ◌-◌, ◌*◌, ◌/◌, ◌%◌, ◌<◌, ◌≤◌, ◌⊎◌, inl, inr, true, false, refl, sym, ap, subst, ◌∙◌, arith, div-add-mod, mod-lt, div-lt_iff_lt-mul, mul_comm, div-mul-add, mod-mul-add, nat_tests, TimerName, L1, L2, L3, L4, L6, L7, T1, T2, T3, T4, T6, T8, T10, Slt1, Slt2, NodeCounts, has_name, count_of, codes_from, destinations_from, t8_from, t10_from, slt1_from, slt2_from, place_in, link_name, code_name, route_name, test_name, name_at, ltb-true}
use Rattle.timers.proofs.Elements.{two_below, two_under, in_table}

under : {a b : ℕ} → a < b → nat_lt a b ≡ true
under {a} {b} h = grind (arith, nat_tests)

over : {a b : ℕ} → b ≤ a → nat_lt a b ≡ false
over {a} {b} h = grind (arith, nat_tests)

sides : (a b : ℕ) → (a < b) ⊎ (b ≤ a)
sides a b = elim (nat_lt a b) as (λ c. nat_lt a b ≡ c → (a < b) ⊎ (b ≤ a)) [ true ↦ λ h. inl (ltb-true a b h) | false ↦ λ h. inr (grind (arith, nat_tests, h)) ] refl

-- ---- by the kind of a place

at_links : (n : NodeCounts) (p : ℕ) → p < codes_from n → name_at n p ≡ link_name (p / n.links) (p % n.links)
at_links n p h = rw (under h) refl

at_codes : (n : NodeCounts) (p : ℕ) → codes_from n ≤ p → p < destinations_from n → name_at n p ≡ code_name (p - codes_from n)
at_codes n p h k = rw (over h, under k) refl

at_destinations : (n : NodeCounts) (p : ℕ) → destinations_from n ≤ p → p < t8_from n → name_at n p ≡ T6 (p - destinations_from n)
at_destinations n p h k =
    let links : codes_from n ≤ p = omega (arith, h) in
    rw (over links, over h, under k) refl

at_t8 : (n : NodeCounts) (p : ℕ) → t8_from n ≤ p → p < t10_from n → name_at n p ≡ route_name (λ s d. T8 s d) n.destinations (p - t8_from n)
at_t8 n p h k =
    let codes : destinations_from n ≤ p = omega (arith, h) in
    let links : codes_from n ≤ p = omega (arith, h) in
    rw (over links, over codes, over h, under k) refl

at_t10 : (n : NodeCounts) (p : ℕ) → t10_from n ≤ p → p < slt1_from n → name_at n p ≡ route_name (λ s d. T10 s d) n.destinations (p - t10_from n)
at_t10 n p h k =
    let destinations : t8_from n ≤ p = omega (arith, h) in
    let codes : destinations_from n ≤ p = omega (arith, h) in
    let links : codes_from n ≤ p = omega (arith, h) in
    rw (over links, over codes, over destinations, over h, under k) refl

at_tests : (n : NodeCounts) (p : ℕ) → slt1_from n ≤ p → name_at n p ≡ test_name n p
at_tests n p h =
    let t8 : t10_from n ≤ p = omega (arith, h) in
    let destinations : t8_from n ≤ p = omega (arith, h) in
    let codes : destinations_from n ≤ p = omega (arith, h) in
    let links : codes_from n ≤ p = omega (arith, h) in
    rw (over links, over codes, over destinations, over t8, over h) refl

at_slt1 : (n : NodeCounts) (p : ℕ) → p < slt2_from n → test_name n p ≡ Slt1 (p - slt1_from n)
at_slt1 n p h = rw (under h) refl

at_slt2 : (n : NodeCounts) (p : ℕ) → slt2_from n ≤ p → test_name n p ≡ Slt2 (p - slt2_from n)
at_slt2 n p h = rw (over h) refl

-- ---- the name at the place of a name is that name

link-named : (n : NodeCounts) (kind link : ℕ) → kind < 9 → nat_lt link n.links ≡ true → name_at n (kind * n.links + link) ≡ link_name kind link
link-named n kind link k h =
    let l = ltb-true link n.links h in
    at_links n (kind * n.links + link) (in_table kind link 9 n.links k l)
    ∙ (λ i. link_name (div-mul-add kind n.links link l i) (mod-mul-add kind n.links link l i))

past : (a b : ℕ) → (a + b) - a ≡ b
past a b = omega arith

row-named : (name : ℕ → ℕ → TimerName) (width from row column : ℕ) → column < width → name (((from + (row * width + column)) - from) / width) (((from + (row * width + column)) - from) % width) ≡ name row column
row-named name width from row column h =
    ap (λ p. name (p / width) (p % width)) (past from (row * width + column))
    ∙ (λ i. name (div-mul-add row width column h i) (mod-mul-add row width column h i))

pub name-place : (n : NodeCounts) (name : TimerName) → has_name n name ≡ true → name_at n (place_in n name) ≡ name
name-place n (L1 link) h = link-named n 0 link (omega arith) h
name-place n (L2 link) h = link-named n 1 link (omega arith) h
name-place n (L3 link) h = link-named n 2 link (omega arith) h
name-place n (L4 link) h = link-named n 3 link (omega arith) h
name-place n (L6 link) h = link-named n 4 link (omega arith) h
name-place n (L7 link) h = link-named n 5 link (omega arith) h
name-place n (T1 link) h = link-named n 6 link (omega arith) h
name-place n (T2 link) h = link-named n 7 link (omega arith) h
name-place n (T3 link) h = link-named n 8 link (omega arith) h
name-place n (T4 set code) h =
    let b = two_below set n.sets code 16 h in
    let f = in_table set code n.sets 16 b.0 b.1 in
    at_codes n (place_in n (T4 set code)) (omega arith) (omega (arith, f)) ∙ row-named (λ s c. T4 s c) 16 (codes_from n) set code b.1
name-place n (T6 destination) h =
    let l = ltb-true destination n.destinations h in
    at_destinations n (place_in n (T6 destination)) (omega arith) (omega (arith, l)) ∙ ap (λ d. T6 d) (past (destinations_from n) destination)
name-place n (T8 set destination) h =
    let b = two_below set n.sets destination n.destinations h in
    let f = in_table set destination n.sets n.destinations b.0 b.1 in
    at_t8 n (place_in n (T8 set destination)) (omega arith) (omega (arith, f)) ∙ row-named (λ s d. T8 s d) n.destinations (t8_from n) set destination b.1
name-place n (T10 set destination) h =
    let b = two_below set n.sets destination n.destinations h in
    let f = in_table set destination n.sets n.destinations b.0 b.1 in
    at_t10 n (place_in n (T10 set destination)) (omega arith) (omega (arith, f)) ∙ row-named (λ s d. T10 s d) n.destinations (t10_from n) set destination b.1
name-place n (Slt1 link) h =
    let l = ltb-true link n.links h in
    let p = place_in n (Slt1 link) in
    at_tests n p (omega arith) ∙ at_slt1 n p (omega (arith, l)) ∙ ap (λ i. Slt1 i) (past (slt1_from n) link)
name-place n (Slt2 link) h =
    let p = place_in n (Slt2 link) in
    at_tests n p (omega arith) ∙ at_slt2 n p (omega arith) ∙ ap (λ i. Slt2 i) (past (slt2_from n) link)

-- ---- the name at an index exists, and is there

pub record IsNamed (n : NodeCounts) (p : ℕ) (name : TimerName) : Type 0 where
  pub has : has_name n name ≡ true
  pub place : place_in n name ≡ p

link-is : (n : NodeCounts) (kind link : ℕ) → kind < 9 → nat_lt link n.links ≡ true → IsNamed n (kind * n.links + link) (link_name kind link)
link-is n (suc (suc (suc (suc (suc (suc (suc (suc (suc kind))))))))) link h k = absurd (omega arith)
link-is n other link h k = record { has = k; place = refl }

-- a place in a table is that of a row and a column
record HasRow (rows width p : ℕ) : Type 0 where
  row : p / width < rows
  column : p % width < width
  whole : (p / width) * width + p % width ≡ p

has_row : (rows width p : ℕ) → p < rows * width → HasRow rows width p
has_row zero width p h = absurd (omega (arith, h))
has_row (suc rows) zero p h = absurd (omega (arith, h))
has_row (suc rows) (suc width) p h =
    let some : 0 < suc width = omega arith in
    record {
      row = (div-lt_iff_lt-mul some).1 h;
      column = mod-lt p some;
      whole = omega (arith, div-add-mod p (suc width), mul_comm (suc width) (p / suc width));
    }

named-link : (n : NodeCounts) (p : ℕ) → p < codes_from n → IsNamed n p (link_name (p / n.links) (p % n.links))
named-link n p h =
    let r = has_row 9 n.links p h in
    let i = link-is n (p / n.links) (p % n.links) r.row (under r.column) in
    record { has = i.has; place = i.place ∙ r.whole }

named-code : (n : NodeCounts) (p : ℕ) → codes_from n ≤ p → p < destinations_from n → IsNamed n p (code_name (p - codes_from n))
named-code n p h k =
    let r = has_row n.sets 16 (p - codes_from n) (omega (arith, h, k)) in
    record {
      has = two_under ((p - codes_from n) / 16) n.sets ((p - codes_from n) % 16) 16 r.row r.column;
      place = omega (arith, r.whole, h);
    }

named-destination : (n : NodeCounts) (p : ℕ) → destinations_from n ≤ p → p < t8_from n → IsNamed n p (T6 (p - destinations_from n))
named-destination n p h k = record { has = under (omega (arith, h, k)); place = omega (arith, h) }

named-t8 : (n : NodeCounts) (p : ℕ) → t8_from n ≤ p → p < t10_from n → IsNamed n p (route_name (λ s d. T8 s d) n.destinations (p - t8_from n))
named-t8 n p h k =
    let q = p - t8_from n in
    let r = has_row n.sets n.destinations q (omega (arith, h, k)) in
    record { has = two_under (q / n.destinations) n.sets (q % n.destinations) n.destinations r.row r.column; place = omega (arith, r.whole, h) }

named-t10 : (n : NodeCounts) (p : ℕ) → t10_from n ≤ p → p < slt1_from n → IsNamed n p (route_name (λ s d. T10 s d) n.destinations (p - t10_from n))
named-t10 n p h k =
    let q = p - t10_from n in
    let r = has_row n.sets n.destinations q (omega (arith, h, k)) in
    record { has = two_under (q / n.destinations) n.sets (q % n.destinations) n.destinations r.row r.column; place = omega (arith, r.whole, h) }

named-slt1 : (n : NodeCounts) (p : ℕ) → slt1_from n ≤ p → p < slt2_from n → IsNamed n p (Slt1 (p - slt1_from n))
named-slt1 n p h k = record { has = under (omega (arith, h, k)); place = omega (arith, h) }

named-slt2 : (n : NodeCounts) (p : ℕ) → slt2_from n ≤ p → p < count_of n → IsNamed n p (Slt2 (p - slt2_from n))
named-slt2 n p h k = record { has = under (omega (arith, h, k)); place = omega (arith, h) }

named-test : (n : NodeCounts) (p : ℕ) → slt1_from n ≤ p → p < count_of n → IsNamed n p (test_name n p)
named-test n p h f =
    elim (sides p (slt2_from n)) [
      | inl k ↦ subst (IsNamed n p) (sym (at_slt1 n p k)) (named-slt1 n p h k)
      | inr k ↦ subst (IsNamed n p) (sym (at_slt2 n p k)) (named-slt2 n p k f)
    ]

pub named : (n : NodeCounts) (p : ℕ) → p < count_of n → IsNamed n p (name_at n p)
named n p f =
    elim (sides p (codes_from n)) [
      | inl h ↦ subst (IsNamed n p) (sym (at_links n p h)) (named-link n p h)
      | inr h ↦ elim (sides p (destinations_from n)) [
        | inl k ↦ subst (IsNamed n p) (sym (at_codes n p h k)) (named-code n p h k)
        | inr k ↦ elim (sides p (t8_from n)) [
          | inl l ↦ subst (IsNamed n p) (sym (at_destinations n p k l)) (named-destination n p k l)
          | inr l ↦ elim (sides p (t10_from n)) [
            | inl m ↦ subst (IsNamed n p) (sym (at_t8 n p l m)) (named-t8 n p l m)
            | inr m ↦ elim (sides p (slt1_from n)) [
              | inl o ↦ subst (IsNamed n p) (sym (at_t10 n p m o)) (named-t10 n p m o)
              | inr o ↦ subst (IsNamed n p) (sym (at_tests n p o)) (named-test n p o f)
            ]
          ]
        ]
      ]
    ]
