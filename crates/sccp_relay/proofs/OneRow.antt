-- A sorted table has at most one translation of an address, and translating returns it.
use Rattle.sccp_relay.proofs.Basics.{◌≡◌, ℕ, zero, suc, ◌<◌, ◌≤◌, Bool, true, false, cond, List, [], ◌∷◌, length, get_or, take, Option, Some, Ok, refl, sym, ap, subst, ◌∙◌, arith, and_parts, eqb-true, tied_itself, nat_list_cmp_total, bytes_decides, AllByRecursion, filter, starts_with, nat_eq, TitleEntry, TitleKey, IsOrdered, row_place, place_order, longest_from, leads, has_key, IsTranslation, translation, translation_refusal, or_refusal}
use Rattle.std.proofs.Common.{Less}
use Rattle.sccp_relay.specs.Translation.{longest}
use Rattle.sccp_relay.proofs.LongestRow.{is_translation-longest}
use Rattle.sccp_relay.proofs.RowOrder.{each-at}

-- ---- where a row leads, a longest one does

next-longest : (best row : TitleEntry) (rows : List TitleEntry) (b : Bool) → ((next : TitleEntry) → (r : TitleEntry) × (longest_from (Some next) rows ≡ Some r))
    → (r : TitleEntry) × (longest_from (cond b (Some row) (Some best)) rows ≡ Some r)
next-longest best row rows true f = f row
next-longest best row rows false f = f best

longest-some : (rows : List TitleEntry) (best : TitleEntry) → (r : TitleEntry) × (longest_from (Some best) rows ≡ Some r)
longest-some [] best = (best, refl)
longest-some (row ∷ rows) best = next-longest best row rows _ (longest-some rows)

passed : (b : Bool) (first : TitleEntry) (rest : List TitleEntry) → ((r : TitleEntry) × (longest rest ≡ Some r)) → (r : TitleEntry) × (longest (cond b (first ∷ rest) rest) ≡ Some r)
passed true first rest h = longest-some rest first
passed false first rest h = h

there-is : (test : TitleEntry → Bool) (rows : List TitleEntry) (k : ℕ) (row : TitleEntry) → k < length rows → get_or rows k row ≡ row → test row ≡ true
    → (r : TitleEntry) × (longest (filter test rows) ≡ Some r)
there-is test [] k row lt e t = absurd (omega (arith, lt))
there-is test (first ∷ rows) zero row lt e t =
    let t' : test first ≡ true = subst (λ (r : TitleEntry). test r ≡ true) (sym e) t in
    rw t' (longest-some (filter test rows) first)
there-is test (first ∷ rows) (suc k) row lt e t = passed (test first) first (filter test rows) (there-is test rows k row (omega (arith, lt)) e t)

-- ---- no two rows stand at one place

pub apart : (a b : List ℕ) → a ≡ b → place_order a b ≡ Less → ⊥
apart a b e less = let tied = tied_itself nat_list_cmp_total a in let same : place_order a a ≡ Less = subst (λ (x : List ℕ). place_order a x ≡ Less) (sym e) less in absurd cc

later-apart : (first : TitleEntry) (rows : List TitleEntry) (k : ℕ) (other : TitleEntry) → AllByRecursion (λ r. place_order (row_place first) (row_place r) ≡ Less) rows → k < length rows
    → get_or rows k other ≡ other → row_place first ≡ row_place other → ⊥
later-apart first rows k other h lt e same =
    apart (row_place first) (row_place other) same (subst (λ (r : TitleEntry). place_order (row_place first) (row_place r) ≡ Less) e (each-at _ rows h k other lt))

pub same-row : (rows : List TitleEntry) → IsOrdered rows → (j k : ℕ) (x y : TitleEntry) → j < length rows → k < length rows → get_or rows j x ≡ x → get_or rows k y ≡ y
    → row_place x ≡ row_place y → x ≡ y
same-row [] h j k x y lt lt' e f same = absurd (omega (arith, lt))
same-row (first ∷ rows) h zero zero x y lt lt' e f same = sym e ∙ f
same-row (first ∷ rows) h zero (suc k) x y lt lt' e f same = absurd (later-apart first rows k y h.0 (omega (arith, lt')) f (ap row_place e ∙ same))
same-row (first ∷ rows) h (suc j) zero x y lt lt' e f same = absurd (later-apart first rows j x h.0 (omega (arith, lt)) e (ap row_place f ∙ sym same))
same-row (first ∷ rows) h (suc j) (suc k) x y lt lt' e f same = same-row rows h.1 j k x y (omega (arith, lt)) (omega (arith, lt')) e f same

-- ---- a row that leads is at the index of the key and of as many digits

pub place-leading : (key : TitleKey) (digits : List ℕ) (row : TitleEntry) → leads key digits row ≡ true
    → row_place row ≡ key.translation ∷ key.plan ∷ key.nature ∷ take (length row.digits) digits
place-leading key digits row e =
    let both = and_parts (has_key key row) (starts_with nat_eq digits row.digits) e in
    let two = and_parts _ _ both.0 in
    let first = and_parts _ _ two.0 in
    let t : row.translation ≡ key.translation = eqb-true _ _ first.0 in
    let p : row.plan ≡ key.plan = eqb-true _ _ first.1 in
    let n : row.nature ≡ key.nature = eqb-true _ _ two.1 in
    let d : row.digits ≡ take (length row.digits) digits = (bytes_decides row.digits (take (length row.digits) digits)).0 both.1 in
    ap (λ (m : ℕ). m ∷ row.plan ∷ row.nature ∷ row.digits) t ∙ ap (λ (m : ℕ). key.translation ∷ m ∷ row.nature ∷ row.digits) p
    ∙ ap (λ (m : ℕ). key.translation ∷ key.plan ∷ m ∷ row.digits) n ∙ ap (λ (ds : List ℕ). key.translation ∷ key.plan ∷ key.nature ∷ ds) d

no-longer : (rows : List TitleEntry) (key : TitleKey) (digits : List ℕ) (row other : TitleEntry) → IsTranslation rows key digits row → IsTranslation rows key digits other
    → length other.digits ≤ length row.digits
no-longer rows key digits row other h k =
    subst (λ (r : TitleEntry). leads key digits r ≡ true → length r.digits ≤ length row.digits) k.among.2 (h.longest k.among.0 other k.among.1) k.leading

pub translation-is_translation : (rows : List TitleEntry) (key : TitleKey) (digits : List ℕ) (row : TitleEntry) → IsOrdered rows → IsTranslation rows key digits row
    → translation rows key digits ≡ Ok row
translation-is_translation rows key digits row h t =
    let l = there-is (leads key digits) rows t.among.0 row t.among.1 t.among.2 t.leading in
    let found = is_translation-longest rows key digits l.0 l.1 in
    let long = no-longer rows key digits row l.0 t found in
    let short = no-longer rows key digits l.0 row found t in
    let len : length l.0.digits ≡ length row.digits = omega (arith, long, short) in
    let place : row_place l.0 ≡ row_place row =
    place-leading key digits l.0 found.leading ∙ ap (λ (n : ℕ). key.translation ∷ key.plan ∷ key.nature ∷ take n digits) len ∙ sym (place-leading key digits row t.leading) in
    let same : l.0 ≡ row = same-row rows h found.among.0 t.among.0 l.0 row found.among.1 t.among.1 found.among.2 t.among.2 place in
    ap (λ (o : Option TitleEntry). or_refusal o (translation_refusal rows key)) l.1 ∙ ap (λ (r : TitleEntry). Ok r) same
