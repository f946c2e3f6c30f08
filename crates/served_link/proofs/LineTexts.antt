-- Octets behind octets, and those that stand within a string of JSON.
use Rattle.std.proofs.Common.{◌≡◌, ◌∙◌, refl, sym, ap, ℕ, ◌+◌, Bool, true, false, List, [], ◌∷◌, ◌++◌, append_assoc, suc, zero, take, length, ◌-◌, ◌≤◌, ◌<◌, min, get_or, ◌/◌, ◌%◌, arith}
use Rattle.std.specs.Prelude.{codes, if◌then◌else◌, Result, Ok, Err, IsOk, OnOk}
use Rattle.std.specs.List.{list_all}
use Rattle.std.proofs.lemmas.Bool.Decides.{nat_tests}
use Rattle.std.proofs.lemmas.Grind.{common_steps}
use Rattle.std.proofs.Math.Seq.{take-append-add}
use Rattle.std.proofs.lemmas.Grind.{flat_map-append}
use Rattle.std.proofs.lemmas.List.{append-nil, take_all, take_min, take_more}
use Rattle.std.proofs.lemmas.List.Folds.{list_all-append}
use Rattle.served_link.specs.LineForms.{cut, escaped, escaped_octet, hex_digit, is_escaped}
use Rattle.served_link.specs.declared.line_form.TheConstants.{FORMED_OCTETS}
use Rattle.served_link.specs.LogLaws.{is_within_string}

-- what is cut is cut again behind it
pub cut_again : (n : ℕ) (zs b : List ℕ) → take n (take n zs ++ b) ≡ take n (zs ++ b)
cut_again zero zs b = refl
cut_again (suc n) [] b = refl
cut_again (suc n) (z ∷ zs) b = ap (λ (t : List ℕ). z ∷ t) (cut_again n zs b)

-- what holds if there is a value holds where there is one
pub taken : {T E P : Type 0} (r : Result T E) → IsOk r → OnOk r P → P
taken (Ok value) is holds = holds
taken (Err error) is holds = absurd (let no : false ≡ true = is in cc)

-- what fits is all that is there, or as much as there is room for
pub fitting : (n : ℕ) (old octets fits : List ℕ) → length old ≤ n → fits ≡ take (min (n - length old) (length octets)) octets →
    old ++ fits ≡ take n (old ++ octets)
fitting n old octets fits within e =
    let total : n ≡ length old + (n - length old) = omega (arith, within) in
    let behind : take n (old ++ octets) ≡ old ++ take (n - length old) octets =
    ap (λ (m : ℕ). take m (old ++ octets)) total ∙ take-append-add old octets (n - length old) in
    rw (e, take_min (n - length old) octets) (sym behind)

-- a line that is short enough is cut nowhere
pub uncut : (octets : List ℕ) → length octets ≤ FORMED_OCTETS → octets ≡ cut (octets ++ [])
uncut octets within = rw (append-nil octets) (sym (take_all FORMED_OCTETS octets within))

-- one octet more of a text
pub escaped_more : (text : List ℕ) (i : ℕ) → i < length text →
    escaped (take (i + 1) text) ≡ escaped (take i text) ++ escaped_octet (get_or text i 0)
escaped_more text i within =
    ap escaped (take_more text i 0 within) ∙ flat_map-append escaped_octet (take i text) (get_or text i 0 ∷ [])
    ∙ ap (λ (t : List ℕ). escaped (take i text) ++ t) (append-nil (escaped_octet (get_or text i 0)))

-- two pieces, one behind another
pub two_pieces : (old a b : List ℕ) {mid new : List ℕ} → mid ≡ cut (old ++ a) → new ≡ cut (mid ++ b) → new ≡ cut (old ++ (a ++ b))
two_pieces old a b first second =
    second ∙ ap (λ (t : List ℕ). cut (t ++ b)) first ∙ cut_again FORMED_OCTETS (old ++ a) b ∙ ap cut (append_assoc old a b)

-- seven of them
pub seven_pieces : (old a b c d e f g : List ℕ) {n1 n2 n3 n4 n5 n6 n7 : List ℕ} →
    n1 ≡ cut (old ++ a) → n2 ≡ cut (n1 ++ b) → n3 ≡ cut (n2 ++ c) → n4 ≡ cut (n3 ++ d) → n5 ≡ cut (n4 ++ e)
    → n6 ≡ cut (n5 ++ f) → n7 ≡ cut (n6 ++ g) → n7 ≡ cut (old ++ (a ++ b ++ c ++ d ++ e ++ f ++ g))
seven_pieces old a b c d e f g e1 e2 e3 e4 e5 e6 e7 =
    two_pieces old (a ++ b ++ c ++ d ++ e ++ f) g (two_pieces old (a ++ b ++ c ++ d ++ e) f (two_pieces old (a ++ b ++ c ++ d) e
    (two_pieces old (a ++ b ++ c) d (two_pieces old (a ++ b) c (two_pieces old a b e1 e2) e3) e4) e5) e6) e7

pub hex_within : (n : ℕ) → is_within_string (hex_digit n) ≡ true
hex_within n = grind (arith, common_steps, nat_tests)

pub plain_within : (octet : ℕ) → is_escaped octet ≡ false → is_within_string octet ≡ true
plain_within octet e = grind (arith, common_steps, nat_tests)

pub within_if : (b : Bool) (octet : ℕ) → is_escaped octet ≡ b →
    list_all is_within_string
    (if b then codes "\\u00" ++ hex_digit (octet / 16) ∷ hex_digit (octet % 16) ∷ [] else octet ∷ []) ≡ true
within_if true octet e = rw (hex_within (octet / 16), hex_within (octet % 16)) refl
within_if false octet e = rw (plain_within octet e) refl

pub octet_within : (octet : ℕ) → list_all is_within_string (escaped_octet octet) ≡ true
octet_within octet = within_if (is_escaped octet) octet refl

pub all_within : (text : List ℕ) → list_all is_within_string (escaped text) ≡ true
all_within [] = refl
all_within (octet ∷ octets) =
    rw (list_all-append is_within_string (escaped_octet octet) (escaped octets), octet_within octet, all_within octets) refl
