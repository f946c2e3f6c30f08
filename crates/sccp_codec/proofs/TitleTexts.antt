-- Titles as they are written, read back; and their digits and octets one by one.
use Rattle.std.proofs.Common.{◌≡◌, ℕ, zero, suc, ◌+◌, ◌*◌, ◌/◌, ◌%◌, ◌^◌, ◌-◌, ◌<◌, ◌≤◌, Bool, true, false, List, [], ◌∷◌, ◌++◌, length, refl, ap, ◌∙◌, arith}
use Rattle.std.proofs.lemmas.Bool.{eqb-true, eqb-false}
use Rattle.std.proofs.lemmas.List.{get_or-take, length-take, append-nil}
use Rattle.std.proofs.Math.Seq.{take-append_seam}
use Rattle.std.proofs.lemmas.List.Elements.{recursion_from_All}
use Rattle.std.proofs.lemmas.Option.{slice_get-get_or}
use Rattle.std.specs.List.{AllByRecursion, flat_map}
use Rattle.std.specs.Prelude.{◌==◌, if◌then◌else◌, slice_index, slice_get, Some}
use Rattle.sccp_codec.specs.declared.title.EncodingScheme.{EncodingScheme}
use Rattle.sccp_codec.specs.declared.title.EncodingScheme.TheVariants.{Odd, Even}
use Rattle.sccp_codec.specs.declared.title.TitleKey.{TitleKey}
use Rattle.sccp_codec.specs.Titles.{halves, digits_in, packed, title_octets, IsTitle, ReadsAsTitle}
use Rattle.sccp_codec.proofs.DigitTexts.{length-halves}

-- ---- packed digits

pub packed-length : (digits : List ℕ) → 2 * length (packed digits) ≡ length digits + length digits % 2
packed-length [] = refl
packed-length (low ∷ []) = refl
packed-length (low ∷ high ∷ digits) = let rest = packed-length digits in omega (arith, rest)

pub packed-at : (digits : List ℕ) (k : ℕ) → slice_index (packed digits) k ≡ slice_index digits (2 * k) + slice_index digits (2 * k + 1) * 16
packed-at [] k = refl
packed-at (low ∷ []) zero = omega arith
packed-at (low ∷ []) (suc k) = let odd : 2 * suc k + 1 ≡ suc (suc (2 * k + 1)) = omega arith in let twice : 2 * suc k ≡ suc (suc (2 * k)) = omega arith in rw (odd, twice) refl
packed-at (low ∷ high ∷ digits) zero = refl
packed-at (low ∷ high ∷ digits) (suc k) =
    let odd : 2 * suc k + 1 ≡ suc (suc (2 * k + 1)) = omega arith in
    let twice : 2 * suc k ≡ suc (suc (2 * k)) = omega arith in rw (odd, twice) (packed-at digits k)

abbrev filler : Bool → List ℕ
filler true = 0 ∷ []
filler false = []

halves-packed : (digits : List ℕ) → AllByRecursion (λ digit. digit < 2 ^ 4) digits → flat_map halves (packed digits) ≡ digits ++ filler (length digits % 2 == 1)
halves-packed [] h = refl
halves-packed (low ∷ []) h =
    let first : low % 16 ≡ low = omega (arith, h.0) in
    let second : low / 16 ≡ 0 = omega (arith, h.0) in
    rw (first, second) refl
halves-packed (low ∷ high ∷ digits) h =
    let first : (low + high * 16) % 16 ≡ low = omega (arith, h.0) in
    let second : (low + high * 16) / 16 ≡ high = omega (arith, h.0, h.1.0) in
    let same : suc (suc (length digits)) % 2 ≡ length digits % 2 = omega arith in
    rw (first, second, same, halves-packed digits h.1.1) refl

-- ---- a title

read-with : (odd : Bool) (key : TitleKey) (digits : List ℕ) → IsTitle key digits → (length digits % 2 == 1) ≡ odd
    → ReadsAsTitle (key.translation ∷ (key.plan * 16 + (if odd then 1 else 2)) ∷ key.nature ∷ packed digits) key digits
read-with true key digits h e =
    let scheme : (key.plan * 16 + 1) % 16 ≡ 1 = omega arith in
    let plan : (key.plan * 16 + 1) / 16 ≡ key.plan = omega arith in
    let nature : key.nature % 128 ≡ key.nature = omega (arith, h.nature) in
    let count : 2 * length (packed digits) - 1 ≡ length digits = omega (arith, packed-length digits, eqb-true (length digits % 2) 1 e) in
    record {
      title = record { key = key; scheme = Odd; digit_octets = packed digits };
      reads = rw (scheme, plan, nature) refl;
      key_read = refl;
      digits_read = rw (count, halves-packed digits (recursion_from_All _ digits h.values), e) (take-append_seam digits (0 ∷ []));
    }
read-with false key digits h e =
    let scheme : (key.plan * 16 + 2) % 16 ≡ 2 = omega arith in
    let plan : (key.plan * 16 + 2) / 16 ≡ key.plan = omega arith in
    let nature : key.nature % 128 ≡ key.nature = omega (arith, h.nature) in
    record {
      title = record { key = key; scheme = Even; digit_octets = packed digits };
      reads = rw (scheme, plan, nature) refl;
      key_read = refl;
      digits_read = rw (halves-packed digits (recursion_from_All _ digits h.values), e) (append-nil digits);
    }

pub title-back : (key : TitleKey) (digits : List ℕ) → IsTitle key digits → ReadsAsTitle (title_octets key digits) key digits
title-back key digits h = read-with (length digits % 2 == 1) key digits h refl

-- ---- a digit

halves-at : (octets : List ℕ) (k : ℕ) → (slice_index (flat_map halves octets) (2 * k) ≡ slice_index octets k % 16)
    × (slice_index (flat_map halves octets) (2 * k + 1) ≡ slice_index octets k / 16)
halves-at [] k = (refl, refl)
halves-at (octet ∷ octets) zero = (refl, refl)
halves-at (octet ∷ octets) (suc k) =
    let odd : 2 * suc k + 1 ≡ suc (suc (2 * k + 1)) = omega arith in
    let twice : 2 * suc k ≡ suc (suc (2 * k)) = omega arith in rw (odd, twice) (halves-at octets k)

half-at : (octets : List ℕ) (i : ℕ) (low : Bool) → (i % 2 == 0) ≡ low
    → slice_index (flat_map halves octets) i ≡ (if low then slice_index octets (i / 2) % 16 else slice_index octets (i / 2) / 16)
half-at octets i true e =
    let twice : i ≡ 2 * (i / 2) = omega (arith, eqb-true (i % 2) 0 e) in
    ap (slice_index (flat_map halves octets)) twice ∙ (halves-at octets (i / 2)).0
half-at octets i false e =
    let odd : i ≡ 2 * (i / 2) + 1 = omega (arith, eqb-false (i % 2) 0 e) in
    ap (slice_index (flat_map halves octets)) odd ∙ (halves-at octets (i / 2)).1

in-scheme : (scheme : EncodingScheme) (octets : List ℕ) (i : ℕ) → i < length (digits_in scheme octets)
    → slice_index (digits_in scheme octets) i ≡ slice_index (flat_map halves octets) i
in-scheme Even octets i lt = refl
in-scheme Odd octets i lt =
    get_or-take (2 * length octets - 1) (flat_map halves octets) i 0 (omega (arith, lt, length-take (2 * length octets - 1) (flat_map halves octets)))

pub digit-at : (scheme : EncodingScheme) (octets : List ℕ) (i : ℕ) → i < length (digits_in scheme octets)
    → slice_get (digits_in scheme octets) i ≡ Some (if i % 2 == 0 then slice_index octets (i / 2) % 16 else slice_index octets (i / 2) / 16)
digit-at scheme octets i lt =
    slice_get-get_or (digits_in scheme octets) i 0 lt ∙ ap Some (in-scheme scheme octets i lt ∙ half-at octets i (i % 2 == 0) refl)

pub digits-length : (scheme : EncodingScheme) (octets : List ℕ) → length (digits_in scheme octets) ≤ 2 * length octets
digits-length Even octets = omega (arith, length-halves octets)
digits-length Odd octets = omega (arith, length-halves octets, length-take (2 * length octets - 1) (flat_map halves octets))

pub odd-length : (octets : List ℕ) → length (digits_in Odd octets) ≡ 2 * length octets - 1
odd-length octets = omega (arith, length-halves octets, length-take (2 * length octets - 1) (flat_map halves octets))
