-- The points of destinations, and the keys of translation rows, that were seen.
use Rattle.settings.proofs.Basics.{refl, sym, ap, ◌∙◌, ◌≡◌, ◌≢◌, ◌≤◌, ◌<◌, ◌^◌, ◌+◌, ℕ, ℤ, pos, negsuc, Bool, true, false, not, cond, ◌||◌, ◌&&◌, nat_lt, nat_le, nat_eq, List, [], ◌∷◌, ◌++◌, None, length, replicate, slice_set, get_or, take, arith, common_steps, nat_tests, length-set, length-replicate, string_bytes, list_any, list_all, int_eq, bytes_eq, Decides-int_eq, bytes_eq-Decides, and_parts, if◌then◌else◌, is_digit, first_of, behind, fault_unless, digits_fault, is_same_title, title_numbers_fault, title_digits_check, seen_with, AreSeen, has_point, AreOf, has_key, title_key, DestinationDraft, TitleDraft, Key, Range, Duplicate, TitleDigits, TITLE_DIGITS}
use Rattle.std.proofs.lemmas.List.{get_or-replicate, get_or-set_same, get_or-set_other}
use Rattle.std.proofs.lemmas.List.Folds.{list_any-append}
use Rattle.settings.specs.declared.titles.TitleKey.{TitleKey}
use Rattle.settings.proofs.Rows.{two_pass}
use Rattle.settings.proofs.FirstOfAll.{keep, same_number}

-- ---- points
pub none_seen : (seen : List Bool) → seen ≡ replicate (2 ^ 14) false → AreSeen seen []
none_seen seen h = record {
  all = rw h (length-replicate {A = Bool} (2 ^ 14) false);
  points = λ n l. rw h (get_or-replicate (2 ^ 14) n false false l);
}

after_one : {A : Type 0} (p : A → Bool) (xs : List A) (x : A) → list_any p (xs ++ x ∷ []) ≡ (list_any p xs || (p x || false))
after_one p xs x = list_any-append p xs (x ∷ [])

or_false : (b : Bool) → (b || false) ≡ b
or_false true = refl
or_false false = refl

or_true : (b : Bool) → (b || true) ≡ true
or_true true = refl
or_true false = refl

apart : (n k : ℕ) → nat_eq n k ≡ false → n ≢ k
apart n k h e = grind (arith, nat_tests)

-- one destination more
pub seen_more : (seen : List Bool) (earlier : List DestinationDraft) (d : DestinationDraft) → AreSeen seen earlier → AreSeen (seen_with seen d.point) (earlier ++ d ∷ [])
seen_more seen earlier d s = record {
  all = all d.point;
  points = λ n l. points d.point n l ∙ sym (after_one (λ e. int_eq e.point (pos n)) earlier d);
}
  where
    all : (point : ℤ) → length (seen_with seen point) ≡ 2 ^ 14
    all (pos k) = length-set seen k true ∙ s.all
    all (negsuc k) = s.all

    at : (b : Bool) (k n : ℕ) → nat_eq n k ≡ b → n < 2 ^ 14 → get_or (slice_set seen k true) n false ≡ (has_point earlier (pos n) || (b || false))
    at true k n e l = grind (arith, nat_tests, common_steps, get_or-set_same seen n true false, or_true, s.all)
    at false k n e l = get_or-set_other seen k n true false (apart n k e) ∙ s.points n l ∙ sym (or_false (has_point earlier (pos n)))

    points : (point : ℤ) (n : ℕ) → n < 2 ^ 14 → get_or (seen_with seen point) n false ≡ (has_point earlier (pos n) || (int_eq point (pos n) || false))
    points (pos k) n l = rw (same_number k n) (at (nat_eq n k) k n refl l)
    points (negsuc k) n l = s.points n l ∙ sym (or_false (has_point earlier (pos n)))

-- ---- translation rows
record IsAlike (u t : TitleDraft) : Type 0 where
  translation : u.translation ≡ t.translation
  plan : u.plan ≡ t.plan
  nature : u.nature ≡ t.nature
  digits : string_bytes u.digits ≡ string_bytes t.digits

is_alike : (u t : TitleDraft) → is_same_title u t ≡ true → IsAlike u t
is_alike u t h =
    let a = and_parts (int_eq u.translation t.translation) (int_eq u.plan t.plan && (int_eq u.nature t.nature && bytes_eq (string_bytes u.digits) (string_bytes t.digits))) h in
    let b = and_parts (int_eq u.plan t.plan) (int_eq u.nature t.nature && bytes_eq (string_bytes u.digits) (string_bytes t.digits)) a.1 in
    let c = and_parts (int_eq u.nature t.nature) (bytes_eq (string_bytes u.digits) (string_bytes t.digits)) b.1 in
    record {
      translation = (Decides-int_eq u.translation t.translation).0 a.0;
      plan = (Decides-int_eq u.plan t.plan).0 b.0;
      nature = (Decides-int_eq u.nature t.nature).0 c.0;
      digits = (bytes_eq-Decides (string_bytes u.digits) (string_bytes t.digits)).0 c.1;
    }

is_key : ℤ → ℤ → ℤ → List ℕ → TitleKey → Bool
is_key translation plan nature digits k = int_eq translation k.translation && (int_eq plan k.plan && (int_eq nature k.nature && bytes_eq digits k.digits.items))

same_keys : (a b : ℤ) (c d : ℤ) (e f : ℤ) (g h : List ℕ) (keys : List TitleKey) → a ≡ b → c ≡ d → e ≡ f → g ≡ h → list_any (is_key a c e g) keys ≡ list_any (is_key b d f h) keys
same_keys a b c d e f g h keys p q r s = rw (p, q, r, s) refl

-- rows that are alike have the same keys
alike_keys : (u t : TitleDraft) (keys : List TitleKey) → IsAlike u t → list_any (has_key u) keys ≡ list_any (has_key t) keys
unfolding is_key
alike_keys u t keys e = same_keys u.translation t.translation u.plan t.plan u.nature t.nature (string_bytes u.digits) (string_bytes t.digits) keys e.translation e.plan e.nature e.digits

abbrev pub with_key : List TitleKey → TitleDraft → List TitleKey
with_key keys t = if list_any (has_key t) keys then keys else keys ++ title_key t ∷ []

pub none_of_title : AreOf [] []
none_of_title = record { same = λ t l. refl }

-- one row more, whose digits aren't too many
pub of_more : (keys : List TitleKey) (earlier : List TitleDraft) (t : TitleDraft) → AreOf keys earlier → AreOf (with_key keys t) (earlier ++ t ∷ [])
of_more keys earlier t s = record { same = λ u l. by (list_any (has_key t) keys) (is_same_title u t) u l refl refl ∙ sym (after_one (is_same_title u) earlier t) }
  where
    by : (there same : Bool) (u : TitleDraft) → length (string_bytes u.digits) ≤ TITLE_DIGITS → list_any (has_key t) keys ≡ there → is_same_title u t ≡ same → list_any (has_key u) (cond there keys (keys ++ title_key t ∷ [])) ≡ (list_any (is_same_title u) earlier || (same || false))
    by false same u l e f = after_one (has_key u) keys (title_key t) ∙ rw (s.same u l, f) refl
    by true true u l e f = alike_keys u t keys (is_alike u t f) ∙ e ∙ sym (or_true (list_any (is_same_title u) earlier))
    by true false u l e f = s.same u l ∙ sym (or_false (list_any (is_same_title u) earlier))

-- one row more, whose digits are too many
pub of_long : (keys : List TitleKey) (earlier : List TitleDraft) (t : TitleDraft) → TITLE_DIGITS < length (string_bytes t.digits) → AreOf keys earlier → AreOf keys (earlier ++ t ∷ [])
of_long keys earlier t long s = record { same = λ u l. by (is_same_title u t) u l refl ∙ sym (after_one (is_same_title u) earlier t) }
  where
    by : (same : Bool) (u : TitleDraft) → length (string_bytes u.digits) ≤ TITLE_DIGITS → is_same_title u t ≡ same → list_any (has_key u) keys ≡ (list_any (is_same_title u) earlier || (same || false))
    by true u l f =
        let a = is_alike u t f in
        let e : length (string_bytes u.digits) ≡ length (string_bytes t.digits) = ap length a.digits in
        absurd (omega (arith, e, l, long))
    by false u l f = s.same u l ∙ sym (or_false (list_any (is_same_title u) earlier))

few : (n : ℕ) → nat_le n TITLE_DIGITS ≡ true → n ≤ TITLE_DIGITS
few n h = grind (arith, nat_tests)

-- digits that are well formed aren't too many
fitting : (key : Key) (text : List ℕ) → digits_fault key text ≡ None → length text ≤ TITLE_DIGITS
fitting key text h =
    let d = two_pass (nat_lt 0 (length text) && nat_le (length text) TITLE_DIGITS) (list_all is_digit text) Range Range key h in
    few (length text) (and_parts (nat_lt 0 (length text)) (nat_le (length text) TITLE_DIGITS) d.0).1

-- whether a row is a repeat matters only where its digits are well formed
pub digits_checked : (earlier : List TitleDraft) (t : TitleDraft) (again : Bool) → (length (string_bytes t.digits) ≤ TITLE_DIGITS → again ≡ list_any (is_same_title t) earlier) → first_of (digits_fault (TitleDigits (length earlier)) (string_bytes t.digits) ∷ behind (title_numbers_fault (length earlier) t) (fault_unless (not again) Duplicate (TitleDigits (length earlier))) ∷ []) ≡ title_digits_check earlier t
digits_checked earlier t again h =
    let key = TitleDigits (length earlier) in
    let numbers = title_numbers_fault (length earlier) t in
    keep (digits_fault key (string_bytes t.digits)) (behind numbers (fault_unless (not again) Duplicate key) ∷ []) (behind numbers (fault_unless (not (list_any (is_same_title t) earlier)) Duplicate key) ∷ []) (λ e.
    ap (λ b. first_of (behind numbers (fault_unless (not b) Duplicate key) ∷ [])) (h (fitting key (string_bytes t.digits) e)))

pub one_more : {A : Type 0} (xs : List A) (i : ℕ) (x d : A) → i < length xs → x ≡ get_or xs i d → take i xs ++ x ∷ [] ≡ take (i + 1) xs
one_more xs i x d l e = grind (arith, common_steps)
