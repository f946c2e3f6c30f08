-- Translation rows without a fault satisfy what is asked of them.
use Rattle.settings.proofs.Basics.{refl, sym, ◌≡◌, ◌≤◌, ◌<◌, ◌^◌, ℕ, Bool, true, false, not, ◌&&◌, nat_eq, nat_lt, nat_le, List, [], ◌∷◌, map, length, All, arith, Option, None, Some, IfSome, ℤ, string_bytes, IsDistinct, AllByRecursion, list_all, list_any, option_map, bytes_eq, int_eq, length-map, All-from_recursion, bytes_eq-Decides, nat_tests, natural, is_within, is_digit, fault_unless, range_fault, entries_fault, optional_fault, ssn_fault, route_fault, digits_fault, added_fault, title_of, digit_of, route_of, change_of, is_by_title, titles_fault, title_fault, title_numbers_fault, title_digits_fault, title_target_fault, title_change_fault, is_same_title, TitleDraft, ChangeDraft, Key, Title, TitleTranslation, TitlePlan, TitleNature, TitleDigits, TitlePoint, TitleBackup, TitleRoute, TitleSsn, TitleNewPlan, TitleNewNature, TitleRemove, TitleAdd, Range, Duplicate, TooMany, TITLES, TITLE_DIGITS, IsWithin, IsTitle, HasSubsystem, is_same_row, and_from, not-true, and_parts}
use Rattle.std.proofs.lemmas.Option.{IfSome_then}
use Rattle.settings.specs.TitleRanges.{HasChangeRanges}
use Rattle.settings.proofs.Rows.{two_none, three_none, four_none, passes, two_pass, within_from_test, each_entry, each_made, each_of_all, entries_differ, differ_made, none_of_any, none_differ}
use Rattle.settings.proofs.WellNumbers.{in_range, optional_in_range}
use Rattle.settings.proofs.WellSets.{int_eq-natural}

nat_eq-turned : (x y : ℕ) → nat_eq x y ≡ true → nat_eq y x ≡ true
nat_eq-turned x y h = grind (arith, nat_tests)

digit_below : (octet : ℕ) → is_digit octet ≡ true → digit_of octet < 2 ^ 4
digit_below octet h = grind (arith, nat_tests)

digit_same : (a b : ℕ) → is_digit a ≡ true → is_digit b ≡ true → digit_of a ≡ digit_of b → a ≡ b
digit_same a b h k e = grind (arith, nat_tests)

-- digits with the same values are written alike
digits_same : (a b : List ℕ) → AllByRecursion (λ x. is_digit x ≡ true) a → AllByRecursion (λ x. is_digit x ≡ true) b → map digit_of a ≡ map digit_of b → a ≡ b
digits_same [] [] h k e = refl
digits_same [] (y ∷ b) h k e = cc
digits_same (x ∷ a) [] h k e = cc
digits_same (x ∷ a) (y ∷ b) h k e =
    let one : digit_of x ≡ digit_of y = cc in
    let rest : map digit_of a ≡ map digit_of b = cc in
    let same : x ≡ y = digit_same x y h.0 k.0 one in
    let others : a ≡ b = digits_same a b h.1 k.1 rest in
    cc

route_well : (by_title : Bool) (key : Key) (ssn : Option ℤ) → ssn_fault by_title key ssn ≡ None → HasSubsystem (route_of by_title (option_map natural ssn))
route_well true key None h = tt
route_well true key (Some n) h = in_range 1 255 key n (two_none (range_fault 1 255 key n) (fault_unless true Range key) h).0
route_well false key None h = cc
route_well false key (Some n) h = in_range 1 255 key n (two_none (range_fault 1 255 key n) (fault_unless true Range key) h).0

few_digits : (n : ℕ) → nat_le n TITLE_DIGITS ≡ true → n ≤ TITLE_DIGITS
few_digits n h = grind (arith, nat_tests)

digits_below : (text : List ℕ) → AllByRecursion (λ x. is_digit x ≡ true) text → All (λ x. x < 2 ^ 4) (map digit_of text)
digits_below text h =
    All-from_recursion (λ x. x < 2 ^ 4) (map digit_of text) (each_made (λ x. is_digit x ≡ true) (λ x. x < 2 ^ 4) digit_of digit_below text h)

change_well : (place : ℕ) (c : ChangeDraft) → title_change_fault place c ≡ None → HasChangeRanges (change_of c)
change_well place c h =
    let r = four_none (optional_fault 0 15 (TitleNewPlan place) c.plan) (optional_fault 0 127 (TitleNewNature place) c.nature) (range_fault 0 TITLE_DIGITS (TitleRemove place) c.removed) (added_fault (TitleAdd place) (string_bytes c.added)) h in
    let d = two_pass (nat_le (length (string_bytes c.added)) TITLE_DIGITS) (list_all is_digit (string_bytes c.added)) Range Range (TitleAdd place) r.3 in
    record {
      plan = IfSome_then (option_map natural c.plan) (optional_in_range 0 15 (TitleNewPlan place) c.plan r.0) (λ x w. omega (arith, w.below));
      nature = IfSome_then (option_map natural c.nature) (optional_in_range 0 127 (TitleNewNature place) c.nature r.1) (λ x w. omega (arith, w.below));
      removed = (in_range 0 TITLE_DIGITS (TitleRemove place) c.removed r.2).below;
      fits = rw (length-map (string_bytes c.added) digit_of) (few_digits (length (string_bytes c.added)) d.0);
      values = digits_below (string_bytes c.added) (each_of_all is_digit (string_bytes c.added) d.1);
    }

-- what is asked of a translation row, as it was written
record HasRange (t : TitleDraft) : Type 0 where
  translation : is_within 0 255 t.translation ≡ true
  plan : is_within 0 15 t.plan ≡ true
  nature : is_within 0 127 t.nature ≡ true
  some : nat_lt 0 (length (string_bytes t.digits)) ≡ true
  fits : nat_le (length (string_bytes t.digits)) TITLE_DIGITS ≡ true
  digits : AllByRecursion (λ x. is_digit x ≡ true) (string_bytes t.digits)
  point : is_within 0 16383 t.point ≡ true
  backup : IfSome (option_map natural t.backup) (IsWithin 0 16383)
  route : HasSubsystem (route_of (is_by_title t) (option_map natural t.ssn))
  change : HasChangeRanges (change_of t.change)

title_none : (earlier : List TitleDraft) (t : TitleDraft) → title_fault earlier t ≡ None → (title_numbers_fault (length earlier) t ≡ None) × (title_digits_fault earlier t ≡ None) × (title_target_fault (length earlier) t ≡ None) × (title_change_fault (length earlier) t.change ≡ None)
title_none earlier t h = four_none (title_numbers_fault (length earlier) t) (title_digits_fault earlier t) (title_target_fault (length earlier) t) (title_change_fault (length earlier) t.change) h

target_none : (place : ℕ) (t : TitleDraft) → title_target_fault place t ≡ None → (range_fault 0 16383 (TitlePoint place) t.point ≡ None) × (optional_fault 0 16383 (TitleBackup place) t.backup ≡ None) × (route_fault (TitleRoute place) (string_bytes t.route) ≡ None) × (ssn_fault (is_by_title t) (TitleSsn place) t.ssn ≡ None)
target_none place t h =
    four_none (range_fault 0 16383 (TitlePoint place) t.point) (optional_fault 0 16383 (TitleBackup place) t.backup) (route_fault (TitleRoute place) (string_bytes t.route)) (ssn_fault (is_by_title t) (TitleSsn place) t.ssn) h

digits_none : (earlier : List TitleDraft) (t : TitleDraft) → title_digits_fault earlier t ≡ None → (digits_fault (TitleDigits (length earlier)) (string_bytes t.digits) ≡ None) × (fault_unless (not (list_any (is_same_title t) earlier)) Duplicate (TitleDigits (length earlier)) ≡ None)
digits_none earlier t h =
    two_none (digits_fault (TitleDigits (length earlier)) (string_bytes t.digits)) (fault_unless (not (list_any (is_same_title t) earlier)) Duplicate (TitleDigits (length earlier))) h

has_range : (earlier : List TitleDraft) (t : TitleDraft) → title_fault earlier t ≡ None → HasRange t
has_range earlier t h =
    let i = length earlier in
    let r = title_none earlier t h in
    let q = target_none i t r.2 in
    let n = three_none (range_fault 0 255 (TitleTranslation i) t.translation) (range_fault 0 15 (TitlePlan i) t.plan) (range_fault 0 127 (TitleNature i) t.nature) r.0 in
    let d = two_pass (nat_lt 0 (length (string_bytes t.digits)) && nat_le (length (string_bytes t.digits)) TITLE_DIGITS) (list_all is_digit (string_bytes t.digits)) Range Range (TitleDigits i) (digits_none earlier t r.1).0 in
    let count = and_parts (nat_lt 0 (length (string_bytes t.digits))) (nat_le (length (string_bytes t.digits)) TITLE_DIGITS) d.0 in
    record {
      translation = passes (is_within 0 255 t.translation) Range (TitleTranslation i) n.0;
      plan = passes (is_within 0 15 t.plan) Range (TitlePlan i) n.1;
      nature = passes (is_within 0 127 t.nature) Range (TitleNature i) n.2;
      some = count.0;
      fits = count.1;
      digits = each_of_all is_digit (string_bytes t.digits) d.1;
      point = passes (is_within 0 16383 t.point) Range (TitlePoint i) q.0;
      backup = optional_in_range 0 16383 (TitleBackup i) t.backup q.1;
      route = route_well (is_by_title t) (TitleSsn i) t.ssn q.3;
      change = change_well i t.change r.3;
    }

some_digit : (n : ℕ) → nat_lt 0 n ≡ true → 1 ≤ n
some_digit n h = grind (arith, nat_tests)

within_well : (t : TitleDraft) → HasRange t → IsTitle (title_of t)
within_well t h =
    let n : IsWithin 0 255 (natural t.translation) = within_from_test 0 255 t.translation h.translation in
    let p : IsWithin 0 15 (natural t.plan) = within_from_test 0 15 t.plan h.plan in
    let m : IsWithin 0 127 (natural t.nature) = within_from_test 0 127 t.nature h.nature in
    let q : IsWithin 0 16383 (natural t.point) = within_from_test 0 16383 t.point h.point in
    record {
      translation = omega (arith, n.below);
      ranges = record {
        plan = omega (arith, p.below);
        nature = omega (arith, m.below);
        some = rw (length-map (string_bytes t.digits) digit_of) (some_digit (length (string_bytes t.digits)) h.some);
        fits = rw (length-map (string_bytes t.digits) digit_of) (few_digits (length (string_bytes t.digits)) h.fits);
        values = digits_below (string_bytes t.digits) h.digits;
      };
      point = omega (arith, q.below);
      backup = IfSome_then (option_map natural t.backup) h.backup (λ x w. omega (arith, w.below));
      route = h.route;
      change = h.change;
    }

titles_none : (titles : List TitleDraft) → titles_fault titles ≡ None → (fault_unless (nat_le (length titles) TITLES) TooMany Title ≡ None) × (entries_fault title_fault [] titles ≡ None)
unfolding titles_fault
titles_none titles h = two_none (fault_unless (nat_le (length titles) TITLES) TooMany Title) (entries_fault title_fault [] titles) h

few_titles : (n : ℕ) → nat_le n TITLES ≡ true → n ≤ TITLES
few_titles n h = grind (arith, nat_tests)

pub title_count_well : (titles : List TitleDraft) → titles_fault titles ≡ None → length (map title_of titles) ≤ TITLES
title_count_well titles h =
    rw (length-map titles title_of) (few_titles (length titles) (passes (nat_le (length titles) TITLES) TooMany Title (titles_none titles h).0))

have_range : (titles : List TitleDraft) → titles_fault titles ≡ None → AllByRecursion HasRange titles
have_range titles h = each_entry title_fault HasRange has_range [] titles (titles_none titles h).1

pub titles_well : (titles : List TitleDraft) → titles_fault titles ≡ None → All IsTitle (map title_of titles)
titles_well titles h = All-from_recursion IsTitle (map title_of titles) (each_made HasRange IsTitle title_of within_well titles (have_range titles h))

-- whether two rows were written alike, the later one looked at first
abbrev is_written_alike : TitleDraft → TitleDraft → Bool
is_written_alike e t = is_same_title t e

new_title : (earlier : List TitleDraft) (t : TitleDraft) → title_fault earlier t ≡ None → AllByRecursion (λ e. is_written_alike e t ≡ false) earlier
new_title earlier t h =
    none_of_any (is_same_title t) earlier (not-true (list_any (is_same_title t) earlier) (passes (not (list_any (is_same_title t) earlier)) Duplicate (TitleDigits (length earlier)) (digits_none earlier t (title_none earlier t h).1).1))

same_number : (high : ℕ) (x y : ℤ) → is_within 0 high x ≡ true → is_within 0 high y ≡ true → nat_eq (natural x) (natural y) ≡ true → int_eq y x ≡ true
same_number high x y h k e = int_eq-natural 0 high y x k h (nat_eq-turned (natural x) (natural y) e)

alike : (e t : TitleDraft) → HasRange e → HasRange t → is_same_row (title_of e) (title_of t) ≡ true → is_written_alike e t ≡ true
alike e t h k same =
    let a = and_parts (nat_eq (natural e.translation) (natural t.translation)) (nat_eq (natural e.plan) (natural t.plan) && (nat_eq (natural e.nature) (natural t.nature) && bytes_eq (map digit_of (string_bytes e.digits)) (map digit_of (string_bytes t.digits)))) same in
    let b = and_parts (nat_eq (natural e.plan) (natural t.plan)) (nat_eq (natural e.nature) (natural t.nature) && bytes_eq (map digit_of (string_bytes e.digits)) (map digit_of (string_bytes t.digits))) a.1 in
    let c = and_parts (nat_eq (natural e.nature) (natural t.nature)) (bytes_eq (map digit_of (string_bytes e.digits)) (map digit_of (string_bytes t.digits))) b.1 in
    let values : map digit_of (string_bytes e.digits) ≡ map digit_of (string_bytes t.digits) = (bytes_eq-Decides (map digit_of (string_bytes e.digits)) (map digit_of (string_bytes t.digits))).0 c.1 in
    let digits : string_bytes e.digits ≡ string_bytes t.digits = digits_same (string_bytes e.digits) (string_bytes t.digits) h.digits k.digits values in
    and_from (int_eq t.translation e.translation) (int_eq t.plan e.plan && (int_eq t.nature e.nature && bytes_eq (string_bytes t.digits) (string_bytes e.digits))) (same_number 255 e.translation t.translation h.translation k.translation a.0)
    (and_from (int_eq t.plan e.plan) (int_eq t.nature e.nature && bytes_eq (string_bytes t.digits) (string_bytes e.digits)) (same_number 15 e.plan t.plan h.plan k.plan b.0)
    (and_from (int_eq t.nature e.nature) (bytes_eq (string_bytes t.digits) (string_bytes e.digits)) (same_number 127 e.nature t.nature h.nature k.nature c.0)
    ((bytes_eq-Decides (string_bytes t.digits) (string_bytes e.digits)).1 (sym digits))))

pub titles_differ_well : (titles : List TitleDraft) → titles_fault titles ≡ None → IsDistinct is_same_row (map title_of titles)
titles_differ_well titles h =
    differ_made HasRange is_written_alike is_same_row title_of alike titles (have_range titles h)
    (entries_differ title_fault is_written_alike new_title [] titles (none_differ is_written_alike) (titles_none titles h).1)
