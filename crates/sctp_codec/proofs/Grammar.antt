-- Octets are items exactly when reading them gives these.
use Rattle.std.proofs.Common.{◌≡◌, ℕ, zero, suc, ◌+◌, ◌-◌, ◌/◌, ◌%◌, ◌^◌, ◌<◌, ◌≤◌, Bool, true, false, List, [], ◌∷◌, ◌++◌, length, take, drop, Option, Some, None, refl, sym, ap, subst, ◌∙◌, ◌⊎◌, inl, inr, arith}
use Rattle.std.proofs.lemmas.Bool.{cases_lt}
use Rattle.std.proofs.lemmas.Bool.Decides.{nat_tests}
use Rattle.std.proofs.lemmas.List.{length-append, length-take, length-take-le, length-drop, take-append-drop, drop-drop, drop_at, drop_all, get_or-drop}
use Rattle.std.specs.Prelude.{if◌then◌else◌, slice_index, slice_range}
use Rattle.std.specs.Int.{w16, to_be_bytes, from_be_bytes}
use Rattle.sctp_codec.specs.Items.{ItemValue, IsPadding, BeginWith, AreItems, AreOctets, number16_at, padding_behind, length_field, begins_whole, first_item, behind_first, with_first, read_up_to, read_items, item_octets}
use Rattle.sctp_codec.proofs.ItemTexts.{begins, behind, read_items-nil, read_items-whole}

-- ---- what is items is read

dropped : (n : ℕ) (padding rest : List ℕ) → length padding ≤ n → (length padding ≡ n) ⊎ (rest ≡ []) → drop n (padding ++ rest) ≡ rest
dropped n padding rest most (inl same) = drop_at padding rest n same
dropped n padding rest most (inr none) =
    let total = length-append padding rest in
    let empty = ap length none in
    drop_all n (padding ++ rest) (omega (arith, total, empty, most)) ∙ sym none

pub are-read : (octets : List ℕ) (items : List ItemValue) → AreItems octets items → read_items octets ≡ Some items
are-read octets [] e = ap read_items e ∙ read_items-nil
are-read octets (item ∷ items) h =
    let rest = h.0 in
    let f = h.1 in
    let text = item_octets item ++ (f.padding ++ rest) in
    let b = begins item (f.padding ++ rest) f.item_fits in
    let left : behind_first text ≡ rest =
    behind item (f.padding ++ rest) f.item_fits ∙ dropped (padding_behind (length item.value)) f.padding rest f.padding_fits.most f.padding_fits.all in
    ap read_items f.says ∙ read_items-whole text b.whole ∙ ap (λ (i : ItemValue). with_first i (read_items (behind_first text))) b.first
    ∙ ap (λ (r : List ℕ). with_first item (read_items r)) left ∙ ap (with_first item) (are-read rest items h.2)

-- ---- what is read is items

two : (a b n : ℕ) → a < 2 ^ 8 → b < 2 ^ 8 → from_be_bytes w16 (a ∷ b ∷ []) ≡ n → to_be_bytes w16 n ≡ a ∷ b ∷ []
two a b n fa fb e =
    let high : n / 2 ^ 8 % 2 ^ 8 ≡ a = omega (arith, e, fa, fb) in
    let low : n % 2 ^ 8 ≡ b = omega (arith, e, fa, fb) in
    cc

four-cells : (text : List ℕ) → 4 ≤ length text → text ≡ slice_index text 0 ∷ slice_index text 1 ∷ slice_index text 2 ∷ slice_index text 3 ∷ drop 4 text
four-cells (a ∷ b ∷ c ∷ d ∷ text) h = refl
four-cells [] h = absurd (omega (arith, h))
four-cells (a ∷ []) h = absurd (omega (arith, h))
four-cells (a ∷ b ∷ []) h = absurd (omega (arith, h))
four-cells (a ∷ b ∷ c ∷ []) h = absurd (omega (arith, h))

item-said : (text : List ℕ) → AreOctets text → 4 ≤ length_field text → length_field text ≤ length text → item_octets (first_item text) ++ drop (length_field text) text ≡ text
item-said text fits least most =
    let n : ℕ = length_field text in
    let value = slice_range text 4 n in
    let less = length-drop 4 text in
    let len : length value ≡ n - 4 = length-take-le (n - 4) (drop 4 text) (omega (arith, less, most)) in
    let whole : 4 + length value ≡ n = omega (arith, len, least) in
    let kind = two (slice_index text 0) (slice_index text 1) (number16_at text 0) (fits 0) (fits 1) refl in
    let count = ap (to_be_bytes w16) whole ∙ two (slice_index text 2) (slice_index text 3) n (fits 2) (fits 3) refl in
    let front : item_octets (first_item text) ≡ (slice_index text 0 ∷ slice_index text 1 ∷ slice_index text 2 ∷ slice_index text 3 ∷ []) ++ value =
    ap (λ (k : List ℕ). (k ++ to_be_bytes w16 (4 + length value)) ++ value) kind ∙ ap (λ (k : List ℕ). ((slice_index text 0 ∷ slice_index text 1 ∷ []) ++ k) ++ value) count in
    let parts : 4 + (n - 4) ≡ n = omega (arith, least) in
    let rest : drop (n - 4) (drop 4 text) ≡ drop n text = drop-drop (n - 4) 4 text ∙ ap (λ (k : ℕ). drop k text) parts in
    let joined : value ++ drop n text ≡ drop 4 text = ap (λ (r : List ℕ). value ++ r) (sym rest) ∙ take-append-drop (n - 4) (drop 4 text) in
    ap (λ (i : List ℕ). i ++ drop n text) front
    ∙ ap (λ (r : List ℕ). slice_index text 0 ∷ slice_index text 1 ∷ slice_index text 2 ∷ slice_index text 3 ∷ r) joined
    ∙ sym (four-cells text (omega (arith, least, most)))

first-begins : (text : List ℕ) → AreOctets text → begins_whole text ≡ true → BeginWith text (first_item text) (behind_first text)
first-begins text fits whole =
    let n : ℕ = length_field text in
    let least : 4 ≤ n = grind (arith, nat_tests, whole) in
    let most : n ≤ length text = grind (arith, nat_tests, whole) in
    let value = slice_range text 4 n in
    let less = length-drop 4 text in
    let len : length value ≡ n - 4 = length-take-le (n - 4) (drop 4 text) (omega (arith, less, most)) in
    let p : ℕ = padding_behind n in
    let same : padding_behind (length value) ≡ p = omega (arith, len, least) in
    let behind_it = drop n text in
    let rest : drop p behind_it ≡ behind_first text = drop-drop p n text in
    let padding = take p behind_it in
    record {
      padding = padding;
      says = sym (ap (λ (r : List ℕ). item_octets (first_item text) ++ (padding ++ r)) (sym rest) ∙ ap (λ (r : List ℕ). item_octets (first_item text) ++ r) (take-append-drop p behind_it) ∙ item-said text fits least most);
      item_fits = record { kind = omega (arith, fits 0, fits 1); fits = omega (arith, len, least, fits 2, fits 3) };
      padding_fits = padded p behind_it (behind_first text) (length value) same rest;
    }
  where
    padded : (p : ℕ) (xs rest : List ℕ) (count : ℕ) → padding_behind count ≡ p → drop p xs ≡ rest → IsPadding (take p xs) rest count
    padded p xs rest count same left =
        let size = length-take p xs in
        record {
          most = omega (arith, same, size);
          all = elim (cases_lt (length xs) p) [
            | inl short ↦ inr (sym left ∙ drop_all p xs (omega (arith, short)))
            | inr long ↦ inl (length-take-le p xs long ∙ sym same)
          ];
        }

after_first : (text : List ℕ) (items : List ItemValue) (whole : Bool) (more : Option (List ItemValue)) → begins_whole text ≡ whole → AreOctets text
    → ((others : List ItemValue) → more ≡ Some others → AreItems (behind_first text) others)
    → (if whole then with_first (first_item text) more else None) ≡ Some items → AreItems text items
after_first text items false more begin fits rest e = absurd cc
after_first text items true None begin fits rest e = absurd cc
after_first text items true (Some others) begin fits rest e =
    let same : first_item text ∷ others ≡ items = cc in
    subst (AreItems text) same (behind_first text, first-begins text fits begin, rest others refl)

pub read-are : (n : ℕ) (octets : List ℕ) (items : List ItemValue) → AreOctets octets → read_up_to n octets ≡ Some items → AreItems octets items
unfolding read_up_to
read-are zero [] [] fits e = refl
read-are zero [] (item ∷ items) fits e = absurd cc
read-are zero (octet ∷ octets) items fits e = absurd cc
read-are (suc n) [] [] fits e = refl
read-are (suc n) [] (item ∷ items) fits e = absurd cc
read-are (suc n) (octet ∷ octets) items fits e =
    let text = octet ∷ octets in
    let k : ℕ = length_field text + padding_behind (length_field text) in
    after_first text items (begins_whole text) (read_up_to n (behind_first text)) refl fits
    (λ others more. read-are n (behind_first text) others (λ i. rw get_or-drop (fits (k + i))) more) e
