-- The ways to rows: which digits they have, which row each leads to, and what remains with one row more or less.
use Rattle.sccp_relay.proofs.Basics.{false_from_ne_true, ◌≡◌, ℕ, zero, suc, ◌+◌, ◌<◌, ◌^◌, ◌/◌, ◌%◌, Bool, true, false, cond, List, [], ◌∷◌, ◌++◌, length, get_or, take, drop, Option, Some, None, refl, sym, ap, subst, ◌∙◌, arith, append-nil, take-append-drop, take_more, All-append, All-cons, All-drop, All-from_recursion, All-more, All-take, bytes_decides, AllByRecursion, StandsAt, get_or_default, if◌then◌else◌, is_some, insert, remove, set, slice_get-get_or, All, Result, Ok, Err, OnOk, is_err, is_ok, bytes_eq, DigitMap, with_value, without, TitleKey, TitleEntry, IsOrdered, key_of, row_place, place_order, IsRow, key_digits, way_of, lead_of, leads_of}
use Rattle.std.proofs.Common.{Less}
use Rattle.sccp_relay.proofs.RowOrder.{each-at}
use Rattle.sccp_relay.proofs.OneRow.{apart}

-- ---- the digits of a way

pub small-way : (row : TitleEntry) → row.translation < 2 ^ 8 → row.plan < 2 ^ 4 → row.nature < 2 ^ 7 → All (λ digit. digit < 2 ^ 4) row.digits → All (λ digit. digit < 16) (way_of row)
small-way row t p n ds =
    All-append (λ digit. digit < 16) (key_digits (key_of row)) row.digits
    (All-from_recursion (λ digit. digit < 16) (key_digits (key_of row)) (omega (arith, t), (omega (arith, t), (omega (arith, p), (omega (arith, n), (omega (arith, n), tt)))))) ds

pub record SameWay (key : TitleKey) (digits : List ℕ) (row : TitleEntry) : Type 0 where
  pub translation : row.translation ≡ key.translation
  pub plan : row.plan ≡ key.plan
  pub nature : row.nature ≡ key.nature
  pub digits_same : row.digits ≡ digits

halves : (m n : ℕ) → m / 16 ≡ n / 16 → m % 16 ≡ n % 16 → m ≡ n
halves m n e f = omega (arith, e, f)

pub same-way : (key : TitleKey) (digits : List ℕ) (row : TitleEntry) → way_of row ≡ key_digits key ++ digits → SameWay key digits row
same-way key digits row e =
    let t : row.translation / 16 ≡ key.translation / 16 = cc in
    let u : row.translation % 16 ≡ key.translation % 16 = cc in
    let p : row.plan ≡ key.plan = cc in
    let n : row.nature / 16 ≡ key.nature / 16 = cc in
    let m : row.nature % 16 ≡ key.nature % 16 = cc in
    let d : row.digits ≡ digits = cc in
    record { translation = halves _ _ t u; plan = p; nature = halves _ _ n m; digits_same = d }

same-place : (row other : TitleEntry) → way_of row ≡ way_of other → row_place row ≡ row_place other
same-place row other e =
    let s = same-way (key_of other) other.digits row e in
    ap (λ (m : ℕ). m ∷ row.plan ∷ row.nature ∷ row.digits) s.translation ∙ ap (λ (m : ℕ). other.translation ∷ m ∷ row.nature ∷ row.digits) s.plan
    ∙ ap (λ (m : ℕ). other.translation ∷ other.plan ∷ m ∷ row.digits) s.nature ∙ ap (λ (ds : List ℕ). other.translation ∷ other.plan ∷ other.nature ∷ ds) s.digits_same

-- rows in their order have ways of their own
ways-apart : (row other : TitleEntry) → place_order (row_place row) (row_place other) ≡ Less → way_of row ≡ way_of other → ⊥
ways-apart row other less e = apart (row_place row) (row_place other) (same-place row other e) less

-- ---- tests of ways

unequal : (a b : List ℕ) → (a ≡ b → ⊥) → bytes_eq a b ≡ false
unequal a b h = false_from_ne_true (bytes_eq a b) (λ e. h ((bytes_decides a b).0 e))

equal : (a b : List ℕ) → a ≡ b → bytes_eq a b ≡ true
equal a b e = (bytes_decides a b).1 e

-- ---- which row a way leads to

pub record FoundRow (rows : List TitleEntry) (way : List ℕ) (lead : ℕ) : Type 0 where
  pub at : ℕ
  pub row : TitleEntry
  pub within : at < length rows
  pub is : get_or rows at row ≡ row
  pub way_is : way_of row ≡ way
  pub lead_is : lead_of row ≡ lead

found-if : (row : TitleEntry) (rows : List TitleEntry) (way : List ℕ) (lead : ℕ) (t : Bool) (rest : Option ℕ) → bytes_eq way (way_of row) ≡ t
    → (rest ≡ Some lead → FoundRow rows way lead) → cond t (Some (lead_of row)) rest ≡ Some lead → FoundRow (row ∷ rows) way lead
found-if row rows way lead true rest e h f = record {
  at = zero;
  row = row;
  within = omega arith;
  is = refl;
  way_is = sym ((bytes_decides way (way_of row)).0 e);
  lead_is = cc;
}
found-if row rows way lead false rest e h f =
    let r = h f in
    record { at = suc r.at; row = r.row; within = omega (arith, r.within); is = r.is; way_is = r.way_is; lead_is = r.lead_is }

pub found-row : (rows : List TitleEntry) (way : List ℕ) (lead : ℕ) → leads_of rows way ≡ Some lead → FoundRow rows way lead
found-row [] way lead e = absurd cc
found-row (row ∷ rows) way lead e = found-if row rows way lead (bytes_eq way (way_of row)) (leads_of rows way) refl (found-row rows way lead) e

none-parts : (t : Bool) (n : ℕ) (rest : Option ℕ) → cond t (Some n) rest ≡ None → (t ≡ false) × (rest ≡ None)
none-parts true n rest e = absurd cc
none-parts false n rest e = (refl, e)

-- a row that is there is led to by its way
pub way-leads : (rows : List TitleEntry) (k : ℕ) (row : TitleEntry) → k < length rows → get_or rows k row ≡ row → leads_of rows (way_of row) ≡ None → ⊥
way-leads [] k row lt e n = omega (arith, lt)
way-leads (first ∷ rows) zero row lt e n =
    let none = (none-parts (bytes_eq (way_of row) (way_of first)) (lead_of first) (leads_of rows (way_of row)) n).0 in
    let yes = equal (way_of row) (way_of first) (ap way_of (sym e)) in
    cc
way-leads (first ∷ rows) (suc k) row lt e n =
    way-leads rows k row (omega (arith, lt)) e (none-parts (bytes_eq (way_of row) (way_of first)) (lead_of first) (leads_of rows (way_of row)) n).1

-- ---- a row more

with-if : (s t : Bool) (a : ℕ) (o x y : Option ℕ) → (s ≡ true → t ≡ false) → (s ≡ false → x ≡ cond t o y) → cond s (Some a) x ≡ cond t o (cond s (Some a) y)
with-if true t a o x y f g = rw (f refl) refl
with-if false t a o x y f g = g refl

pub leads-between : (front back : List TitleEntry) (row : TitleEntry) → leads_of front (way_of row) ≡ None
    → leads_of (front ++ row ∷ back) ≡ with_value (leads_of (front ++ back)) (way_of row) (lead_of row)
leads-between [] back row e = refl
leads-between (first ∷ front) back row e = λ i. λ way.
    let parts = none-parts (bytes_eq (way_of row) (way_of first)) (lead_of first) (leads_of front (way_of row)) e in
    with-if (bytes_eq way (way_of first)) (bytes_eq way (way_of row)) (lead_of first) (Some (lead_of row)) (leads_of (front ++ row ∷ back) way) (leads_of (front ++ back) way)
    (λ yes. unequal way (way_of row) (λ same.
    let here = equal (way_of row) (way_of first) (sym same ∙ (bytes_decides way (way_of first)).0 yes) in
    let other = parts.0 in cc))
    (λ no. ap (λ (map : List ℕ → Option ℕ). map way) (leads-between front back row parts.1)) i

leads-front : (rows : List TitleEntry) (i : ℕ) (way : List ℕ) → leads_of rows way ≡ None → leads_of (take i rows) way ≡ None
leads-front rows zero way e = refl
leads-front [] (suc i) way e = refl
leads-front (row ∷ rows) (suc i) way e =
    let parts = none-parts (bytes_eq way (way_of row)) (lead_of row) (leads_of rows way) e in
    rw parts.0 (leads-front rows i way parts.1)

pub leads-inserted : (rows : List TitleEntry) (i : ℕ) (row : TitleEntry) → leads_of rows (way_of row) ≡ None
    → leads_of (insert rows i row) ≡ with_value (leads_of rows) (way_of row) (lead_of row)
leads-inserted rows i row e =
    leads-between (take i rows) (drop i rows) row (leads-front rows i (way_of row) e)
    ∙ ap (λ (rs : List TitleEntry). with_value (leads_of rs) (way_of row) (lead_of row)) (take-append-drop i rows)

-- ---- a row less

none-behind-row : (row : TitleEntry) (rows : List TitleEntry) → AllByRecursion (λ other. place_order (row_place row) (row_place other) ≡ Less) rows → leads_of rows (way_of row) ≡ None
none-behind-row row [] h = refl
none-behind-row row (other ∷ rows) h = rw (unequal (way_of row) (way_of other) (ways-apart row other h.0)) (none-behind-row row rows h.1)

first-gone : (t : Bool) (a : ℕ) (x : Option ℕ) → (t ≡ true → x ≡ None) → x ≡ cond t None (cond t (Some a) x)
first-gone true a x f = f refl
first-gone false a x f = refl

pub leads-removed : (rows : List TitleEntry) (i : ℕ) (row : TitleEntry) → IsOrdered rows → i < length rows → get_or rows i row ≡ row
    → leads_of (remove rows i) ≡ without (leads_of rows) (way_of row)
leads-removed [] i row h lt e = absurd (omega (arith, lt))
leads-removed (first ∷ rows) zero row h lt e = λ j. λ way.
    let same : way_of first ≡ way_of row = ap way_of e in
    (first-gone (bytes_eq way (way_of first)) (lead_of first) (leads_of rows way)
    (λ yes. ap (leads_of rows) ((bytes_decides way (way_of first)).0 yes) ∙ none-behind-row first rows h.0)
    ∙ ap (λ (w : List ℕ). cond (bytes_eq way w) None (leads_of (first ∷ rows) way)) same) j
leads-removed (first ∷ rows) (suc i) row h lt e = λ j. λ way.
    let less : place_order (row_place first) (row_place row) ≡ Less =
    subst (λ (r : TitleEntry). place_order (row_place first) (row_place r) ≡ Less) e (each-at _ rows h.0 i row (omega (arith, lt))) in
    with-if (bytes_eq way (way_of first)) (bytes_eq way (way_of row)) (lead_of first) None (leads_of (remove rows i) way) (leads_of rows way)
    (λ yes. unequal way (way_of row) (λ same. ways-apart first row less (sym ((bytes_decides way (way_of first)).0 yes) ∙ same)))
    (λ no. ap (λ (map : List ℕ → Option ℕ). map way) (leads-removed rows i row h.1 (omega (arith, lt)) e)) j

-- ---- a row in place of another

-- the way to a row at a place
abbrev way_at : List ℕ → List ℕ
way_at (translation ∷ plan ∷ nature ∷ digits) = key_digits (record { translation = translation; plan = plan; nature = nature }) ++ digits
way_at place = []

pub way-at : (row other : TitleEntry) → row_place row ≡ row_place other → way_of row ≡ way_of other
way-at row other e = ap way_at e

again : (t : Bool) (a b : ℕ) (o : Option ℕ) → cond t (Some a) o ≡ cond t (Some a) (cond t (Some b) o)
again true a b o = refl
again false a b o = refl

pub leads-replaced : (rows : List TitleEntry) (i : ℕ) (old row : TitleEntry) → IsOrdered rows → i < length rows → get_or rows i old ≡ old → way_of old ≡ way_of row
    → leads_of (set rows i row) ≡ with_value (leads_of rows) (way_of row) (lead_of row)
leads-replaced [] i old row h lt e w = absurd (omega (arith, lt))
leads-replaced (first ∷ rows) zero old row h lt e w = λ j. λ way.
    let same : way_of first ≡ way_of row = ap way_of e ∙ w in
    (again (bytes_eq way (way_of row)) (lead_of row) (lead_of first) (leads_of rows way)
    ∙ ap (λ (x : List ℕ). cond (bytes_eq way (way_of row)) (Some (lead_of row)) (cond (bytes_eq way x) (Some (lead_of first)) (leads_of rows way))) (sym same)) j
leads-replaced (first ∷ rows) (suc i) old row h lt e w = λ j. λ way.
    let less : place_order (row_place first) (row_place old) ≡ Less =
    subst (λ (r : TitleEntry). place_order (row_place first) (row_place r) ≡ Less) e (each-at _ rows h.0 i old (omega (arith, lt))) in
    with-if (bytes_eq way (way_of first)) (bytes_eq way (way_of row)) (lead_of first) (Some (lead_of row)) (leads_of (set rows i row) way) (leads_of rows way)
    (λ yes. unequal way (way_of row) (λ same. ways-apart first old less (sym ((bytes_decides way (way_of first)).0 yes) ∙ same ∙ sym w)))
    (λ no. ap (λ (map : List ℕ → Option ℕ). map way) (leads-replaced rows i old row h.1 (omega (arith, lt)) e w)) j

some-led : (o : Option ℕ) → (o ≡ None → ⊥) → is_some o ≡ true
some-led None h = absurd (h refl)
some-led (Some lead) h = refl

-- what a trie leads to that had a way to the old row
pub led-anew : (rows : List TitleEntry) (i : ℕ) (row : TitleEntry) (before after : DigitMap) → IsOrdered rows → StandsAt rows (row_place row) i → before ≡ leads_of rows
    → after ≡ (if is_some (before (way_of row)) then with_value before (way_of row) (lead_of row) else before) → after ≡ leads_of (set rows i row)
led-anew rows i row before after h at e f =
    let old = get_or rows i row in
    let is : get_or rows i old ≡ old = get_or_default rows i old row at.within in
    let way : way_of old ≡ way_of row = way-at old row (at.row old (slice_get-get_or rows i row at.within)) in
    let there : is_some (before (way_of row)) ≡ true =
    some-led (before (way_of row)) (λ none. way-leads rows i old at.within is (ap (leads_of rows) way ∙ ap (λ (map : DigitMap). map (way_of row)) (sym e) ∙ none)) in
    f ∙ ap (λ (t : Bool). cond t (with_value before (way_of row) (lead_of row)) before) there
    ∙ ap (λ (map : DigitMap). with_value map (way_of row) (lead_of row)) e ∙ sym (leads-replaced rows i old row h at.within is way)

-- ---- a row after the others

pub on_ok : {T E P : Type 0} (r : Result T E) → is_err r ≡ false → OnOk r P → P
on_ok (Ok x) e h = h
on_ok (Err x) e h = absurd cc

pub leads-pushed : (rows : List TitleEntry) (i : ℕ) (row : TitleEntry) → i < length rows → row ≡ get_or rows i row → leads_of (take i rows) (way_of row) ≡ None
    → leads_of (take (i + 1) rows) ≡ with_value (leads_of (take i rows)) (way_of row) (lead_of row)
leads-pushed rows i row lt e none =
    ap leads_of (take_more rows i row lt ∙ ap (λ (r : TitleEntry). take i rows ++ r ∷ []) (sym e)) ∙ leads-between (take i rows) [] row none
    ∙ ap (λ (rs : List TitleEntry). with_value (leads_of rs) (way_of row) (lead_of row)) (append-nil (take i rows))

-- ---- rows in their ranges

pub all-more : (rows : List TitleEntry) (i : ℕ) (row : TitleEntry) → i < length rows → row ≡ get_or rows i row → All IsRow (take i rows) → IsRow row → All IsRow (take (i + 1) rows)
all-more rows i row lt e all is = All-more IsRow rows i row lt all (subst IsRow e is)

pub all-inserted : (rows : List TitleEntry) (i : ℕ) (row : TitleEntry) → All IsRow rows → IsRow row → All IsRow (insert rows i row)
all-inserted rows i row all is = All-append IsRow (take i rows) (row ∷ drop i rows) (All-take IsRow i rows all) (All-cons IsRow row (drop i rows) is (All-drop IsRow i rows all))

pub all-removed : (rows : List TitleEntry) (i : ℕ) → All IsRow rows → All IsRow (remove rows i)
all-removed rows i all = All-append IsRow (take i rows) (drop (suc i) rows) (All-take IsRow i rows all) (All-drop IsRow (suc i) rows all)

-- ---- a row that is put there, or not

pub when_ok : {T E P : Type 0} (r : Result T E) → is_ok r ≡ true → OnOk r P → P
when_ok (Ok x) e h = h
when_ok (Err x) e h = absurd cc

pub all-put : (old new : List TitleEntry) (i : ℕ) (row : TitleEntry) (ok : Bool) → new ≡ cond ok (insert old i row) old → All IsRow old → (ok ≡ true → IsRow row) → All IsRow new
all-put old new i row true e all is = rw e (all-inserted old i row all (is refl))
all-put old new i row false e all is = rw e all

pub leads-put : (old new : List TitleEntry) (i : ℕ) (row : TitleEntry) (ok : Bool) (before after : DigitMap) → new ≡ cond ok (insert old i row) old → before ≡ leads_of old
    → after ≡ cond ok (with_value before (way_of row) (lead_of row)) before → (ok ≡ true → before (way_of row) ≡ None) → after ≡ leads_of new
leads-put old new i row true before after e l f free =
    f ∙ ap (λ (map : DigitMap). with_value map (way_of row) (lead_of row)) l
    ∙ sym (leads-inserted old i row (sym (ap (λ (map : DigitMap). map (way_of row)) l) ∙ free refl)) ∙ ap leads_of (sym e)
leads-put old new i row false before after e l f free = f ∙ l ∙ ap leads_of (sym e)
