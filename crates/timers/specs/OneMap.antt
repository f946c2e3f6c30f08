-- Timers with the same ticks left are the same, so the ticks left to each name of a node are a code of its timers.
use Rattle.std.specs.Prelude.{◌≡◌, ℕ, ◌+◌, ◌<◌, ◌==◌, ◌&&◌, nat_lt, Bool, true, false, if◌then◌else◌, Option, None, List, [], map, get_or}
use Rattle.std.specs.List.{range_with_len}
use Rattle.std.proofs.Common.{refl, sym, ap, ◌∙◌, arith}
use Rattle.std.proofs.lemmas.Bool.Decides.{nat_tests}
use Rattle.std.proofs.lemmas.List.FromFn.{get_or-map-range_with_len}
use Rattle.std.specs.Coded.{Coded, Coded-set, code_by, coded_ℕ, coded_option, coded_list, coded×, Π_prop, →_prop}
use base.Stored.{coded_via}
use mathlib.Core.HLevel.{Σ_prop_path}
use Rattle.signalling_types.specs.declared.limits.TheConstants.Limits.{CHANGEBACK_CODES}
use Rattle.timers.specs.declared.name.TimerName.{TimerName}
use Rattle.timers.specs.declared.name.TimerName.TheVariants.{L1, L2, L3, L4, L6, L7, T1, T2, T3, T4, T6, T8, T10}
use Rattle.timers.specs.declared.name.TimerName.TheVariants.{Slt1, Slt2}
use Rattle.timers.specs.declared.name.NodeCounts.{NodeCounts}
use Rattle.timers.specs.Timers.{Key, key_of, has_name, Running}

-- ---- the same left to each name

abbrev Data : Type 0
Data = NodeCounts × (TimerName → Option ℕ)

-- a name that doesn't exist has nothing
abbrev IsOnly : Data → Type 0
IsOnly p = (name : TimerName) → has_name p.0 name ≡ false → p.1 name ≡ None

only_prop : (p : Data) → IsProp (IsOnly p)
only_prop p = Π_prop (λ name. →_prop (Coded-set (coded_option coded_ℕ) (p.1 name) None))

pub one_map : (r s : Running) → r.counts ≡ s.counts → ((name : TimerName) → r.left name ≡ s.left name) → r ≡ s
one_map r s counts left =
    let whole : ◌≡◌ {A = (p : Data) × IsOnly p} ((r.counts, r.left), r.only) ((s.counts, s.left), s.only) =
    Σ_prop_path only_prop (λ i. (counts i, λ name. left name i)) in
    λ i. record { counts = (whole i).0.0; left = (whole i).0.1; only = (whole i).1 }

-- ---- a name by its key

abbrev pub name_with : (kind row column : ℕ) → TimerName
name_with kind row column =
    if kind == 0 then L1 row
    else if kind == 1 then L2 row
    else if kind == 2 then L3 row
    else if kind == 3 then L4 row
    else if kind == 4 then L6 row
    else if kind == 5 then L7 row
    else if kind == 6 then T1 row
    else if kind == 7 then T2 row
    else if kind == 8 then T3 row
    else if kind == 9 then T4 row column
    else if kind == 10 then T6 row
    else if kind == 11 then T8 row column
    else if kind == 12 then T10 row column
    else if kind == 13 then Slt1 row
    else Slt2 row

abbrev pub name_of_key : Key → TimerName
name_of_key k = name_with k.kind k.row k.column

pub name-key : (name : TimerName) → name_of_key (key_of name) ≡ name
name-key (L1 link) = refl
name-key name = refl

-- ---- what is left, as a list for each kind, row and column

abbrev rows : NodeCounts → ℕ
rows n = n.links + n.sets + n.destinations

abbrev columns : NodeCounts → ℕ
columns n = CHANGEBACK_CODES + n.destinations

record IsWithin (n : NodeCounts) (k : Key) : Type 0 where
  kind : k.kind < 15
  row : k.row < rows n
  column : k.column < columns n

below : (a b : ℕ) → nat_lt a b ≡ true → a < b
below a b h = grind (arith, nat_tests, h)

both_below : (a b c d : ℕ) → (nat_lt a b && nat_lt c d) ≡ true → (a < b) × (c < d)
both_below a b c d h = (grind (arith, nat_tests, h), grind (arith, nat_tests, h))

of_link : (n : NodeCounts) (k : Key) → k.kind < 15 → nat_lt k.row n.links ≡ true → k.column ≡ 0 → IsWithin n k
of_link n k kind link column = record {
  kind = omega (arith, kind);
  row = omega (arith, below k.row n.links link);
  column = omega (arith, column);
}

of_set : (n : NodeCounts) (k : Key) (width : ℕ) → k.kind < 15 → (nat_lt k.row n.sets && nat_lt k.column width) ≡ true
    → (width < columns n + 1) → IsWithin n k
of_set n k width kind set fits =
    let b = both_below k.row n.sets k.column width set in
    record { kind = kind; row = omega (arith, b.0); column = omega (arith, b.1, fits) }

within : (n : NodeCounts) (name : TimerName) → has_name n name ≡ true → IsWithin n (key_of name)
within n (L1 link) h = of_link n (key_of (L1 link)) (omega arith) h refl
within n (L2 link) h = of_link n (key_of (L2 link)) (omega arith) h refl
within n (L3 link) h = of_link n (key_of (L3 link)) (omega arith) h refl
within n (L4 link) h = of_link n (key_of (L4 link)) (omega arith) h refl
within n (L6 link) h = of_link n (key_of (L6 link)) (omega arith) h refl
within n (L7 link) h = of_link n (key_of (L7 link)) (omega arith) h refl
within n (T1 link) h = of_link n (key_of (T1 link)) (omega arith) h refl
within n (T2 link) h = of_link n (key_of (T2 link)) (omega arith) h refl
within n (T3 link) h = of_link n (key_of (T3 link)) (omega arith) h refl
within n (T4 set code) h = of_set n (key_of (T4 set code)) CHANGEBACK_CODES (omega arith) h (omega arith)
within n (T6 destination) h = record {
  kind = omega arith;
  row = omega (arith, below destination n.destinations h);
  column = omega arith;
}
within n (T8 set destination) h = of_set n (key_of (T8 set destination)) n.destinations (omega arith) h (omega arith)
within n (T10 set destination) h = of_set n (key_of (T10 set destination)) n.destinations (omega arith) h (omega arith)
within n (Slt1 link) h = of_link n (key_of (Slt1 link)) (omega arith) h refl
within n (Slt2 link) h = of_link n (key_of (Slt2 link)) (omega arith) h refl

abbrev tabled : {A : Type 0} → ℕ → (ℕ → A) → List A
tabled count f = map f (range_with_len 0 count)

at_place : {A : Type 0} (count i : ℕ) (f : ℕ → A) (d : A) → i < count → get_or (tabled count f) i d ≡ f i
at_place count i f d h = get_or-map-range_with_len f 0 count i i d h (omega arith)

abbrev Lefts : Type 0
Lefts = List (List (List (Option ℕ)))

abbrev lefts : (kinds rows columns : ℕ) → (TimerName → Option ℕ) → Lefts
lefts kinds rows columns left =
    tabled kinds (λ kind. tabled rows (λ row. tabled columns (λ column. left (name_with kind row column))))

abbrev entry : Key → Lefts → Option ℕ
entry k table = get_or (get_or (get_or table k.kind []) k.row []) k.column None

entry-left : (kinds rows columns : ℕ) (k : Key) (left : TimerName → Option ℕ) → k.kind < kinds → k.row < rows
    → k.column < columns → entry k (lefts kinds rows columns left) ≡ left (name_of_key k)
entry-left kinds rows columns k left a b c =
    ap (λ (table : List (List (Option ℕ))). get_or (get_or table k.row []) k.column None)
    (at_place kinds k.kind
    (λ kind. tabled rows (λ row. tabled columns (λ column. left (name_with kind row column)))) [] a)
    ∙ ap (λ (table : List (Option ℕ)). get_or table k.column None)
    (at_place rows k.row (λ row. tabled columns (λ column. left (name_with k.kind row column))) [] b)
    ∙ at_place columns k.column (λ column. left (name_with k.kind k.row column)) None c

-- ---- the code

abbrev pub counts_code : Coded NodeCounts
counts_code =
    code_by (ℕ × (ℕ × ℕ)) (coded× coded_ℕ (coded× coded_ℕ coded_ℕ))
    (λ n. (n.links, (n.sets, n.destinations)))
    (λ p. record { links = p.0; sets = p.1.0; destinations = p.1.1 }) (λ _. refl)

abbrev pub listed : Running → NodeCounts × Lefts
listed r = (r.counts, lefts 15 (rows r.counts) (columns r.counts) r.left)

pub listed-one : (r s : Running) → listed r ≡ listed s → r ≡ s
listed-one r s e = one_map r s counts (λ name. at name (has_name r.counts name) refl)
  where
    counts : r.counts ≡ s.counts
    counts = ap (λ (p : NodeCounts × Lefts). p.0) e

    table : (t : Running) (name : TimerName) → has_name t.counts name ≡ true
        → entry (key_of name) (listed t).1 ≡ t.left name
    table t name h =
        let w = within t.counts name h in
        entry-left 15 (rows t.counts) (columns t.counts) (key_of name) t.left w.kind w.row w.column
        ∙ ap t.left (name-key name)

    at : (name : TimerName) (has : Bool) → has_name r.counts name ≡ has → r.left name ≡ s.left name
    at name true h =
        sym (table r name h)
        ∙ ap (λ (p : NodeCounts × Lefts). entry (key_of name) p.1) e
        ∙ table s name (ap (λ n. has_name n name) (sym counts) ∙ h)
    at name false h =
        r.only name h ∙ sym (s.only name (ap (λ n. has_name n name) (sym counts) ∙ h))

abbrev pub running_code : Coded Running
running_code =
    coded_via (coded× counts_code (coded_list (coded_list (coded_list (coded_option coded_ℕ))))) listed listed-one
