-- The longest way that exists along the digits of a key is that of the row by which its addresses are translated.
use Rattle.sccp_relay.proofs.Basics.{◌≡◌, ℕ, ◌+◌, ◌*◌, ◌<◌, ◌≤◌, ◌^◌, ◌/◌, ◌%◌, Bool, true, cond, List, ◌++◌, length, get_or, take, Option, Some, None, refl, sym, ap, subst, ◌∙◌, inl, inr, arith, and_parts, cases_lt, eq-eqb, eqb-true, ne_eqb, lt-ltb, le-ltb, get_or_default, length-take, length-take-le, All-get_or, bytes_decides, filter, list_any, starts_with, NoNature, NoDigits, All, Err, nat_eq, DigitMap, behind, Cause, TitleKey, TitleEntry, HasTitleRanges, TitleRoute, Title, Ssn, key_of, leads, has_key, IsTranslation, translation, translation_refusal, or_refusal, IsRow, IsRoute, IsSsn, key_digits, way_of, lead_of, leads_of, route_number, route_of, row_led}
use Rattle.settings.specs.Configuration.{ChangeEntry, unchanged}
use Rattle.sccp_relay.specs.Changing.{is_unchanged}
use Rattle.sccp_relay.specs.Ways.{is_plain}
use Rattle.sccp_relay.proofs.ReadTitles.{same-unchanged}
use Rattle.std.specs.Prelude.{if◌then◌else◌, Contains, false, is_none, ◌∷◌, Result, Ok, IfOk, OnErr}
use Rattle.sccp_relay.proofs.Basics.{is_at, is_eq, has_row, place_of, row_place, place_order, IsOrdered, list_any_at, tied_itself, nat_list_cmp_total, Equal}
use Rattle.sccp_relay.proofs.OneRow.{same-row, translation-is_translation}
use Rattle.sccp_relay.specs.Digits.{longest as longest_digits}
use Rattle.sccp_relay.proofs.Longest.{is-longest, is-none-longest}
use Rattle.sccp_relay.specs.Translation.{longest}
use Rattle.sccp_relay.proofs.LongestRow.{is_translation-longest}
use Rattle.sccp_relay.proofs.RowWays.{SameWay, same-way, FoundRow, found-row, way-leads}

-- ---- a row by its way and where it leads

route-back-title : (n : ℕ) → IsSsn n → route_of n ≡ Title (Some n)
route-back-title n h =
    let small : n % 256 ≡ n = omega (arith, h.1) in
    rw (small, ne_eqb n 0 (λ e. omega (arith, e, h.0)), lt-ltb n 256 (omega (arith, h.1))) refl

route-back-ssn : (n : ℕ) → IsSsn n → route_of (256 + n) ≡ Ssn n
route-back-ssn n h =
    let small : (256 + n) % 256 ≡ n = omega (arith, h.1) in
    rw (small, ne_eqb n 0 (λ e. omega (arith, e, h.0)), le-ltb (256 + n) 256 (omega arith)) refl

route-back : (route : TitleRoute) → IsRoute route → route_of (route_number route) ≡ route
route-back (Title None) h = refl
route-back (Title (Some n)) h = route-back-title n h
route-back (Ssn n) h = route-back-ssn n h

lead-parts : (r p : ℕ) → p < 2 ^ 14 → ((r * 2 ^ 14 + p) % 2 ^ 14 ≡ p) × ((r * 2 ^ 14 + p) / 2 ^ 14 ≡ r)
lead-parts r p h = (omega (arith, h), omega (arith, h))

-- a row with another point, backup, route or change of titles
to : TitleEntry → ℕ → Option ℕ → TitleRoute → ChangeEntry → TitleEntry
to row point backup route change = record row { point = point; backup = backup; route = route; change = change }

no-backup : (backup : Option ℕ) → is_none backup ≡ true → None ≡ backup
no-backup None e = refl
no-backup (Some point) e = absurd cc

lead-alone : (same : Bool) (lead : ℕ) → same ≡ true → (if same then 0 else 1) * 2 ^ 23 + lead ≡ lead
lead-alone true lead e = omega arith
lead-alone false lead e = absurd cc

lead-small : (same : Bool) (lead : ℕ) → (if same then 0 else 1) * 2 ^ 23 + lead < 2 ^ 23 → same ≡ true
lead-small true lead h = refl
lead-small false lead h = absurd (omega (arith, h))

pub row-back : (row : TitleEntry) → IsRow row → is_plain row ≡ true → row_led (key_of row) row.digits (lead_of row) ≡ row
unfolding to
row-back row is same =
    let parts = lead-parts (route_number row.route) row.point is.point in
    let plain = and_parts (is_none row.backup) (is_unchanged row.change) same in
    ap (row_led (key_of row) row.digits) (lead-alone (is_plain row) (route_number row.route * 2 ^ 14 + row.point) same)
    ∙ ap (λ (n : ℕ). to row n None (route_of ((route_number row.route * 2 ^ 14 + row.point) / 2 ^ 14)) unchanged) parts.0
    ∙ ap (λ (r : TitleRoute). to row row.point None r unchanged) (ap route_of parts.1 ∙ route-back row.route is.route)
    ∙ ap (λ (backup : Option ℕ). to row row.point backup row.route unchanged) (no-backup row.backup plain.0)
    ∙ ap (to row row.point row.backup row.route) (sym (same-unchanged row.change plain.1))

led-same : (key : TitleKey) (digits : List ℕ) (row : TitleEntry) → IsRow row → is_plain row ≡ true → SameWay key digits row → row_led key digits (lead_of row) ≡ row
led-same key digits row is same s =
    ap (λ (t : ℕ). row_led (record { translation = t; plan = key.plan; nature = key.nature }) digits (lead_of row)) (sym s.translation)
    ∙ ap (λ (p : ℕ). row_led (record { translation = row.translation; plan = p; nature = key.nature }) digits (lead_of row)) (sym s.plan)
    ∙ ap (λ (n : ℕ). row_led (record { translation = row.translation; plan = row.plan; nature = n }) digits (lead_of row)) (sym s.nature)
    ∙ ap (λ (ds : List ℕ). row_led (key_of row) ds (lead_of row)) (sym s.digits_same)
    ∙ row-back row is same

-- ---- rows that lead digits

key-true : (key : TitleKey) (digits : List ℕ) (row : TitleEntry) → SameWay key digits row → has_key key row ≡ true
key-true key digits row s = rw (eq-eqb row.translation key.translation s.translation, eq-eqb row.plan key.plan s.plan, eq-eqb row.nature key.nature s.nature) refl

begins : (digits : List ℕ) (n : ℕ) (front : List ℕ) → n ≤ length digits → front ≡ take n digits → starts_with nat_eq digits front ≡ true
begins digits n front le e =
    let len : length front ≡ n = ap length e ∙ length-take-le n digits le in
    (bytes_decides front (take (length front) digits)).1 (e ∙ ap (λ (m : ℕ). take m digits) (sym len))

row-leads : (key : TitleKey) (digits : List ℕ) (n : ℕ) (row : TitleEntry) → n ≤ length digits → SameWay key (take n digits) row → leads key digits row ≡ true
row-leads key digits n row le s = rw (key-true key (take n digits) row s) (begins digits n row.digits le s.digits_same)

-- what a row that leads these digits says of its way
record Leading (key : TitleKey) (digits : List ℕ) (row : TitleEntry) : Type 0 where
  pub within : length row.digits ≤ length digits
  pub way : way_of row ≡ key_digits key ++ take (length row.digits) digits

way-same : (key : TitleKey) (digits : List ℕ) (row : TitleEntry) → SameWay key digits row → way_of row ≡ key_digits key ++ digits
way-same key digits row s =
    ap (λ (t : ℕ). key_digits (record { translation = t; plan = row.plan; nature = row.nature }) ++ row.digits) s.translation
    ∙ ap (λ (p : ℕ). key_digits (record { translation = key.translation; plan = p; nature = row.nature }) ++ row.digits) s.plan
    ∙ ap (λ (n : ℕ). key_digits (record { translation = key.translation; plan = key.plan; nature = n }) ++ row.digits) s.nature
    ∙ ap (λ (ds : List ℕ). key_digits key ++ ds) s.digits_same

leading : (key : TitleKey) (digits : List ℕ) (row : TitleEntry) → leads key digits row ≡ true → Leading key digits row
leading key digits row e =
    let both = and_parts (has_key key row) (starts_with nat_eq digits row.digits) e in
    let two = and_parts _ _ both.0 in
    let first = and_parts _ _ two.0 in
    let d : row.digits ≡ take (length row.digits) digits = (bytes_decides row.digits (take (length row.digits) digits)).0 both.1 in
    record {
      within = omega (arith, ap length d, length-take (length row.digits) digits);
      way = way-same key (take (length row.digits) digits) row
          (record { translation = eqb-true _ _ first.0; plan = eqb-true _ _ first.1; nature = eqb-true _ _ two.1; digits_same = d });
    }

-- ---- the row that is found

pub record Translated (rows : List TitleEntry) (key : TitleKey) (digits : List ℕ) (count lead : ℕ) : Type 0 where
  pub within : count ≤ length digits
  pub ranges : HasTitleRanges key.plan key.nature (take count digits)
  pub row : lead < 2 ^ 23 → IsTranslation rows key digits (row_led key (take count digits) lead)
  pub there : has_row rows (place_of key (take count digits)) ≡ true
  pub at_place : (row : TitleEntry) → IsOrdered rows → Contains rows row → row_place row ≡ place_of key (take count digits) → IsTranslation rows key digits row

abbrev pub ways_of_key : List TitleEntry → TitleKey → DigitMap
ways_of_key rows key = behind (leads_of rows) (key_digits key)

same-ranges : (key : TitleKey) (digits : List ℕ) (row : TitleEntry) → SameWay key digits row → HasTitleRanges row.plan row.nature row.digits → HasTitleRanges key.plan key.nature digits
same-ranges key digits row s h =
    subst (λ (ds : List ℕ). HasTitleRanges key.plan key.nature ds) s.digits_same
    (subst (λ (n : ℕ). HasTitleRanges key.plan n row.digits) s.nature (subst (λ (p : ℕ). HasTitleRanges p row.nature row.digits) s.plan h))

not-longer : (rows : List TitleEntry) (key : TitleKey) (digits : List ℕ) (count k : ℕ) (other : TitleEntry) → k < length rows → get_or rows k other ≡ other
    → leads key digits other ≡ true → ((m : ℕ) → count < m → m ≤ length digits → ways_of_key rows key (take m digits) ≡ None) → length other.digits ≤ count
not-longer rows key digits count k other lt e t h =
    let l = leading key digits other t in
    elim (cases_lt count (length other.digits)) [
      | inr most ↦ most
      | inl longer ↦ absurd (way-leads rows k other lt e (ap (leads_of rows) l.way ∙ h (length other.digits) longer l.within))
    ]

found-translation : (rows : List TitleEntry) (key : TitleKey) (digits : List ℕ) (count lead : ℕ) → count ≤ length digits
    → (f : FoundRow rows (key_digits key ++ take count digits) lead) → ((m : ℕ) → count < m → m ≤ length digits → ways_of_key rows key (take m digits) ≡ None)
    → IsTranslation rows key digits f.row
found-translation rows key digits count lead le f h =
    let s = same-way key (take count digits) f.row f.way_is in
    let len : length f.row.digits ≡ count = ap length s.digits_same ∙ length-take-le count digits le in
    record {
      among = (f.at, f.within, f.is);
      leading = row-leads key digits count f.row le s;
      longest = λ k d lt t.
          let most = not-longer rows key digits count k (get_or rows k d) lt (get_or_default rows k (get_or rows k d) d lt) t h in omega (arith, most, len);
    }

-- what the trie answers
pub walked : (map : DigitMap) (rows : List TitleEntry) (key : TitleKey) (front digits : List ℕ) (r : Option (ℕ × ℕ)) → map ≡ leads_of rows → front ≡ key_digits key
    → r ≡ longest_digits (behind map front) digits → longest_digits (ways_of_key rows key) digits ≡ r
walked map rows key front digits r e f g =
    sym (g ∙ ap (λ (m : DigitMap). longest_digits (behind m front) digits) e ∙ ap (λ (ds : List ℕ). longest_digits (behind (leads_of rows) ds) digits) f)

place-same : (key : TitleKey) (digits : List ℕ) (row : TitleEntry) → SameWay key digits row → row_place row ≡ place_of key digits
place-same key digits row s =
    ap (λ (m : ℕ). m ∷ row.plan ∷ row.nature ∷ row.digits) s.translation ∙ ap (λ (m : ℕ). key.translation ∷ m ∷ row.nature ∷ row.digits) s.plan
    ∙ ap (λ (m : ℕ). key.translation ∷ key.plan ∷ m ∷ row.digits) s.nature ∙ ap (λ (ds : List ℕ). key.translation ∷ key.plan ∷ key.nature ∷ ds) s.digits_same

is-there : (rows : List TitleEntry) (place : List ℕ) (k : ℕ) (row : TitleEntry) → k < length rows → get_or rows k row ≡ row → row_place row ≡ place → has_row rows place ≡ true
is-there rows place k row lt e same =
    let equal : place_order (row_place row) place ≡ Equal = subst (λ (p : List ℕ). place_order (row_place row) p ≡ Equal) same (tied_itself nat_list_cmp_total (row_place row)) in
    list_any_at (is_at place) rows k row lt (ap (is_at place) e ∙ ap is_eq equal)

pub translated : (rows : List TitleEntry) (key : TitleKey) (digits : List ℕ) (count lead : ℕ) → All IsRow rows → longest_digits (ways_of_key rows key) digits ≡ Some (count, lead)
    → Translated rows key digits count lead
translated rows key digits count lead all e =
    let l = is-longest (ways_of_key rows key) digits count lead e in
    let f = found-row rows (key_digits key ++ take count digits) lead l.stands in
    let s = same-way key (take count digits) f.row f.way_is in
    let is : IsRow f.row = subst IsRow f.is (All-get_or IsRow rows f.at f.row f.within all) in
    let found = found-translation rows key digits count lead l.within f l.none_longer in
    let place = place-same key (take count digits) f.row s in
    record {
      within = l.within;
      ranges = same-ranges key (take count digits) f.row s is.ranges;
      row = λ small.
          let plain = lead-small (is_plain f.row) (route_number f.row.route * 2 ^ 14 + f.row.point) (subst (λ (n : ℕ). n < 2 ^ 23) (sym f.lead_is) small) in
          let same : row_led key (take count digits) lead ≡ f.row = ap (row_led key (take count digits)) (sym f.lead_is) ∙ led-same key (take count digits) f.row is plain s in
          subst (IsTranslation rows key digits) (sym same) found;
      there = is-there rows (place_of key (take count digits)) f.at f.row f.within f.is place;
      at_place = λ row h among at.
          subst (IsTranslation rows key digits) (same-row rows h f.at among.0 f.row row f.within among.1 f.is among.2 (place ∙ sym at)) found;
    }

-- the row that is at the place
pub by-place : (rows lent : List TitleEntry) (key : TitleKey) (digits : List ℕ) (count lead : ℕ) (found : Result TitleEntry Cause) → Translated rows key digits count lead → IsOrdered rows
    → lent ≡ rows → IfOk found (Contains lent) → IfOk found (λ row. row_place row ≡ place_of key (take count digits))
    → OnErr found (has_row lent (place_of key (take count digits)) ≡ false) → (found ≡ translation rows key digits) × IfOk found (IsTranslation rows key digits)
by-place rows lent key digits count lead (Ok row) t h e among place free =
    let is = t.at_place row h (subst (λ (rs : List TitleEntry). Contains rs row) e among) place in
    (sym (translation-is_translation rows key digits row h is), is)
by-place rows lent key digits count lead (Err cause) t h e among place free =
    absurd (let no : has_row rows (place_of key (take count digits)) ≡ false = subst (λ (rs : List TitleEntry). has_row rs (place_of key (take count digits)) ≡ false) e free in let yes = t.there in cc)

-- ---- no row

none-leads : (rows : List TitleEntry) (key : TitleKey) (digits : List ℕ) (row : TitleEntry) → longest_digits (ways_of_key rows key) digits ≡ None → IsTranslation rows key digits row → ⊥
none-leads rows key digits row e t =
    let l = leading key digits row t.leading in
    way-leads rows t.among.0 row t.among.1 t.among.2 (ap (leads_of rows) l.way ∙ is-none-longest (ways_of_key rows key) digits (length row.digits) e l.within)

refused-if : (rows : List TitleEntry) (key : TitleKey) (digits : List ℕ) (cause : Cause) (o : Option TitleEntry) → longest (filter (leads key digits) rows) ≡ o
    → longest_digits (ways_of_key rows key) digits ≡ None → or_refusal o cause ≡ Err cause
refused-if rows key digits cause None e n = refl
refused-if rows key digits cause (Some row) e n = absurd (none-leads rows key digits row n (is_translation-longest rows key digits row e))

pub refused : (rows : List TitleEntry) (key : TitleKey) (digits : List ℕ) → longest_digits (ways_of_key rows key) digits ≡ None
    → translation rows key digits ≡ Err (translation_refusal rows key)
refused rows key digits n = refused-if rows key digits (translation_refusal rows key) (longest (filter (leads key digits) rows)) refl n

pub refused_by : (rows : List TitleEntry) (key : TitleKey) (digits : List ℕ) (there : Bool) → longest_digits (ways_of_key rows key) digits ≡ None
    → list_any (has_key key) rows ≡ there → translation rows key digits ≡ Err (cond there NoDigits NoNature)
refused_by rows key digits there n e = refused rows key digits n ∙ ap (λ (t : Bool). Err (cond t NoDigits NoNature)) e
