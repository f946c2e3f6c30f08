-- A row that is put in the place of another, or is added: it leads its digits, and how many rows there are then.
use Rattle.sccp_relay.proofs.Basics.{◌≡◌, ℕ, suc, ◌+◌, ◌≤◌, Bool, true, false, cond, not, if◌then◌else◌, List, [], ◌∷◌, length, get_or, take, refl, sym, ap, ◌∙◌, inl, arith, and_parts, eq-eqb, length-append, length-take, take_all, Contains-append_right, bytes_decides, filter, list_any, starts_with, nat_eq, ◌||◌, is_lt, is_eq, is_gt, Ordering, Less, Equal, Greater, Ok, TitleEntry, key_of, row_place, place_order, is_at, is_before, is_behind, IsOrdered, has_row, with_row, without_row, has_key, leads, translation}
use Rattle.sccp_relay.proofs.RowOrder.{all-behind, ordered-with_row, tells-behind}
use Rattle.sccp_relay.proofs.OtherRows.{both}
use Rattle.sccp_relay.proofs.OneRow.{translation-is_translation}

-- ---- the row that it replaces may be removed first

before-apart : (o : Ordering) → is_lt o ≡ true → not (is_eq o) ≡ true
before-apart Less e = refl
before-apart o e = absurd cc

behind-apart : (o : Ordering) → is_gt o ≡ true → not (is_eq o) ≡ true
behind-apart Greater e = refl
behind-apart o e = absurd cc

pub set-removed : (row : TitleEntry) (rows : List TitleEntry) → with_row row (without_row (row_place row) rows) ≡ with_row row rows
set-removed row rows =
    let place = row_place row in
    rw (
      both (is_before place) (λ other. not (is_at place other)) true (λ other e. before-apart (place_order (row_place other) place) e) rows,
      both (is_behind place) (λ other. not (is_at place other)) true (λ other e. behind-apart (place_order (row_place other) place) e) rows,
    ) refl

-- ---- how many rows there are

abbrev one : Bool → ℕ
one true = 1
one false = 0

counted-more : (o : Ordering) (row : TitleEntry) (front back rows : List TitleEntry) (there : Bool) → length front + length back + one there ≡ length rows → (o ≡ Equal → there ≡ false)
    → length (cond (is_lt o) (row ∷ front) front) + length (cond (is_gt o) (row ∷ back) back) + one (is_eq o || there) ≡ suc (length rows)
counted-more Less row front back rows there e f = omega (arith, e)
counted-more Greater row front back rows there e f = omega (arith, e)
counted-more Equal row front back rows true e f = absurd (let wrong : true ≡ false = f refl in cc)
counted-more Equal row front back rows false e f = omega (arith, e)

counted : (place : List ℕ) (rows : List TitleEntry) → IsOrdered rows → length (filter (is_before place) rows) + length (filter (is_behind place) rows) + one (has_row rows place) ≡ length rows
counted place [] h = refl
counted place (row ∷ rows) h =
    counted-more (place_order (row_place row) place) row (filter (is_before place) rows) (filter (is_behind place) rows) rows (has_row rows place) (counted place rows h.1)
    (λ at. (tells-behind place rows (all-behind place row rows (inl at) h.0)).found)

or-more : (there : Bool) (n m all : ℕ) → n + m + one there ≡ all → n + suc m ≡ (if there then all else all + 1)
or-more true n m all e = omega (arith, e)
or-more false n m all e = omega (arith, e)

pub set-count : (row : TitleEntry) (rows : List TitleEntry) → IsOrdered rows → length (with_row row rows) ≡ (if has_row rows (row_place row) then length rows else length rows + 1)
set-count row rows h =
    let front = filter (is_before (row_place row)) rows in
    let back = filter (is_behind (row_place row)) rows in
    length-append front (row ∷ back) ∙ or-more (has_row rows (row_place row)) (length front) (length back) (length rows) (counted (row_place row) rows h)

-- ---- it leads its digits

no-longer : (digits other : List ℕ) → other ≡ take (length other) digits → length other ≤ length digits
no-longer digits other e = omega (arith, ap length e, length-take (length other) digits)

has-own_key : (row : TitleEntry) → has_key (key_of row) row ≡ true
has-own_key row = rw (eq-eqb row.translation row.translation refl, eq-eqb row.plan row.plan refl, eq-eqb row.nature row.nature refl) refl

leads-own : (row : TitleEntry) → leads (key_of row) row.digits row ≡ true
leads-own row =
    let begins : starts_with nat_eq row.digits row.digits ≡ true = (bytes_decides row.digits (take (length row.digits) row.digits)).1 (sym (take_all (length row.digits) row.digits (omega arith))) in
    rw (has-own_key row, begins) refl

shorter : (row other : TitleEntry) → leads (key_of row) row.digits other ≡ true → length other.digits ≤ length row.digits
shorter row other e =
    let both = and_parts (has_key (key_of row) other) (starts_with nat_eq row.digits other.digits) e in
    no-longer row.digits other.digits ((bytes_decides other.digits (take (length other.digits) row.digits)).0 both.1)

pub set-leads : (row : TitleEntry) (rows : List TitleEntry) → IsOrdered rows → translation (with_row row rows) (key_of row) row.digits ≡ Ok row
set-leads row rows h =
    translation-is_translation (with_row row rows) (key_of row) row.digits row (ordered-with_row row rows h) (record {
      among = Contains-append_right (filter (is_before (row_place row)) rows) (row ∷ filter (is_behind (row_place row)) rows) row (0, omega arith, refl);
      leading = leads-own row;
      longest = λ k d lt. shorter row (get_or (with_row row rows) k d);
    })
