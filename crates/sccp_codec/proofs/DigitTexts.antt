-- The digits of octets, and the first 32 of them.
use Rattle.std.proofs.Common.{◌≡◌, ℕ, zero, suc, ◌-◌, ◌*◌, ◌<◌, ◌≤◌, List, [], ◌∷◌, ◌++◌, length, take, refl, sym, ap, ◌∙◌, arith}
use Rattle.std.proofs.lemmas.List.{take_all, length-take, take-take}
use Rattle.std.specs.List.{flat_map}
use Rattle.sccp_codec.specs.declared.title.EncodingScheme.{EncodingScheme}
use Rattle.sccp_codec.specs.declared.title.EncodingScheme.TheVariants.{Odd, Even}
use Rattle.sccp_codec.specs.Titles.{halves, digits_in}

pub length-halves : (octets : List ℕ) → length (flat_map halves octets) ≡ 2 * length octets
length-halves [] = refl
length-halves (octet ∷ octets) = grind (arith, length-halves octets)

-- the digits of the first octets are the first digits
pub take-halves : (n : ℕ) (octets : List ℕ) → take (2 * n) (flat_map halves octets) ≡ flat_map halves (take n octets)
take-halves zero octets = refl
take-halves (suc n) [] = let twice : 2 * suc n ≡ suc (suc (2 * n)) = omega arith in rw twice refl
take-halves (suc n) (octet ∷ octets) =
    let twice : 2 * suc n ≡ suc (suc (2 * n)) = omega arith in
    rw twice (ap (λ (digits : List ℕ). halves octet ++ digits) (take-halves n octets))

-- over 16 octets have 32 digits, in either scheme
pub first-digits : (scheme : EncodingScheme) (octets : List ℕ) → 16 < length octets → flat_map halves (take 16 octets) ≡ take 32 (digits_in scheme octets)
first-digits Even octets h = sym (take-halves 16 octets)
first-digits Odd octets h = sym (take-take 32 (2 * length octets - 1) (flat_map halves octets) (omega (arith, h)) ∙ take-halves 16 octets)

pub even-digits : (octets : List ℕ) → length octets ≤ 16 → flat_map halves octets ≡ take 32 (digits_in Even octets)
even-digits octets h = sym (take_all 32 (flat_map halves octets) (omega (arith, h, length-halves octets)))

-- without the last half
pub odd-digits : (octets : List ℕ) (n : ℕ) → length octets ≤ 16 → n ≡ length (flat_map halves octets) → take (n - 1) (flat_map halves octets) ≡ take 32 (digits_in Odd octets)
odd-digits octets n h e =
    rw (e, length-halves octets) (sym (take_all 32 (take (2 * length octets - 1) (flat_map halves octets)) (omega (arith, h, length-take (2 * length octets - 1) (flat_map halves octets)))))
