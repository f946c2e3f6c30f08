-- Octets are an address that says something exactly when reading them gives it.
use Rattle.std.proofs.Common.{◌≡◌, ℕ, suc, ◌+◌, ◌*◌, ◌/◌, ◌%◌, ◌^◌, ◌<◌, ◌≤◌, Bool, true, false, List, [], ◌∷◌, ◌++◌, length, drop, Option, Some, None, Ok, Err, refl, sym, subst, ◌∙◌, inl, inr, arith}
use Rattle.std.proofs.lemmas.Bool.{cases_eq, eq-eqb, ne_eqb, le-ltb}
use Rattle.std.proofs.lemmas.Bool.Decides.{nat_tests}
use Rattle.std.specs.Prelude.{slice_index, ◌==◌, if◌then◌else◌, is_some, IfSome}
use Rattle.sccp_codec.specs.declared.fault.SccpFault.{SccpFault}
use Rattle.sccp_codec.specs.declared.address.Routing.{Routing}
use Rattle.sccp_codec.specs.declared.address.Routing.TheVariants.{Title, Ssn}
use Rattle.sccp_codec.specs.Messages.{AddressValue, IsAddress, IsAddressValue, AreOctets, indicator_octet, point_octets, ssn_octets, bit, is_set, is_by_ssn, unless, address_fault, address_in, read_address, title_place, point_at, title_indicator_of}

-- ---- reading without fault

pub unless-ok : {V : Type 0} (f : Option SccpFault) (v w : V) → unless f v ≡ Ok w → (f ≡ None) × (v ≡ w)
unless-ok None v w e = (refl, cc)
unless-ok (Some g) v w e = absurd cc

pub unless-err : {V : Type 0} (f : Option SccpFault) (v : V) (g : SccpFault) → unless f v ≡ Err g → f ≡ Some g
unless-err None v g e = absurd cc
unless-err (Some h) v g e = cc

-- ---- the bits of the indicator octet

test-of_bit : (set : Bool) (n : ℕ) → n ≡ bit set 0 → (n == 1) ≡ set
test-of_bit true n e = eq-eqb n 1 e
test-of_bit false n e = ne_eqb n 1 (λ one. omega (arith, e, one))

bit-of_test : (n number : ℕ) → n < 2 → bit (n == 1) number ≡ n * 2 ^ number
bit-of_test n number h =
    elim (cases_eq n 1) [
      | inl one ↦ rw (eq-eqb n 1 one, one) (omega arith)
      | inr other ↦ let none : n ≡ 0 = omega (arith, h, other) in rw (ne_eqb n 1 other, none) (omega arith)
    ]

bit_scaled : (set : Bool) (number : ℕ) → bit set number ≡ bit set 0 * 2 ^ number
bit_scaled true number = omega arith
bit_scaled false number = omega arith

bit_small : (set : Bool) → bit set 0 < 2
bit_small true = omega arith
bit_small false = omega arith

pub record Says (octet : ℕ) (b0 b1 b6 b7 : Bool) (number : ℕ) : Type 0 where
  pub point : is_set octet 0 ≡ b0
  pub ssn : is_set octet 1 ≡ b1
  pub by_ssn : is_set octet 6 ≡ b6
  pub national : is_set octet 7 ≡ b7
  pub title : title_indicator_of octet ≡ number

-- what the octet with these bits says
pub says-bits : (point ssn by_ssn national : Bool) (title indicator : ℕ) → title < 2 ^ 4
    → indicator ≡ bit point 0 + bit ssn 1 + title * 2 ^ 2 + bit by_ssn 6 + bit national 7 → Says indicator point ssn by_ssn national title
says-bits point ssn by_ssn national title indicator h e =
    let p = bit_small point in
    let s = bit_small ssn in
    let r = bit_small by_ssn in
    let n = bit_small national in
    let e1 = bit_scaled ssn 1 in
    let e6 = bit_scaled by_ssn 6 in
    let e7 = bit_scaled national 7 in
    record {
      point = test-of_bit point _ (omega arith);
      ssn = test-of_bit ssn _ (omega arith);
      by_ssn = test-of_bit by_ssn _ (omega arith);
      national = test-of_bit national _ (omega arith);
      title = omega arith;
    }

-- an octet has just the bits that it says
pub bits-said : (indicator : ℕ) → indicator < 2 ^ 8
    → indicator ≡ bit (is_set indicator 0) 0 + bit (is_set indicator 1) 1 + title_indicator_of indicator * 2 ^ 2 + bit (is_set indicator 6) 6 + bit (is_set indicator 7) 7
bits-said indicator h =
    let b0 = bit-of_test (indicator / 2 ^ 0 % 2) 0 (omega arith) in
    let b1 = bit-of_test (indicator / 2 ^ 1 % 2) 1 (omega arith) in
    let b6 = bit-of_test (indicator / 2 ^ 6 % 2) 6 (omega arith) in
    let b7 = bit-of_test (indicator / 2 ^ 7 % 2) 7 (omega arith) in
    rw (b0, b1, b6, b7) (omega arith)

by_ssn-routing : (set : Bool) → is_by_ssn (if set then Ssn else Title) ≡ set
by_ssn-routing true = refl
by_ssn-routing false = refl

routing-by_ssn : (routing : Routing) → (if is_by_ssn routing then Ssn else Title) ≡ routing
routing-by_ssn Title = refl
routing-by_ssn Ssn = refl

some-if : (set : Bool) (n : ℕ) → is_some (if set then Some n else None) ≡ set
some-if true n = refl
some-if false n = refl

-- ---- what is read is an address

-- the parts after the indicator octet
record Behind (octets : List ℕ) (point ssn : Option ℕ) (title : List ℕ) : Type 0 where
  pub spare : ℕ
  pub spare_fits : spare < 2 ^ 2
  pub says : octets ≡ point_octets spare point ++ ssn_octets ssn ++ title
  pub point_fits : IfSome point (λ p. p < 2 ^ 14)
  pub ssn_fits : IfSome ssn (λ s. s < 2 ^ 8)

pub point-says : (low high : ℕ) (rest : List ℕ) → low < 2 ^ 8 → high < 2 ^ 8
    → low ∷ high ∷ rest ≡ (low + high * 2 ^ 8) % 2 ^ 14 % 2 ^ 8 ∷ ((low + high * 2 ^ 8) % 2 ^ 14 / 2 ^ 8 + high / 2 ^ 6 * 2 ^ 6) ∷ rest
point-says low high rest l h =
    let first : low ≡ (low + high * 2 ^ 8) % 2 ^ 14 % 2 ^ 8 = omega arith in
    let second : high ≡ (low + high * 2 ^ 8) % 2 ^ 14 / 2 ^ 8 + high / 2 ^ 6 * 2 ^ 6 = omega arith in
    cc

behind : (point ssn : Bool) (octets : List ℕ) (indicator : ℕ) → AreOctets octets
    → (if ssn then (if point then 3 else 1) + 1 else (if point then 3 else 1)) ≤ length (indicator ∷ octets)
    → Behind octets (if point then Some (point_at (indicator ∷ octets)) else None)
    (if ssn then Some (slice_index (indicator ∷ octets) (if point then 3 else 1)) else None)
    (drop (if ssn then (if point then 3 else 1) + 1 else (if point then 3 else 1)) (indicator ∷ octets))
behind false false octets indicator fits long =
    record { spare = 0; spare_fits = omega arith; says = refl; point_fits = tt; ssn_fits = tt }
behind false true [] indicator fits long = absurd (omega (arith, long))
behind false true (s ∷ octets) indicator fits long =
    record { spare = 0; spare_fits = omega arith; says = refl; point_fits = tt; ssn_fits = fits 0 }
behind true false [] indicator fits long = absurd (omega (arith, long))
behind true true [] indicator fits long = absurd (omega (arith, long))
behind true false (low ∷ []) indicator fits long = absurd (omega (arith, long))
behind true true (low ∷ []) indicator fits long = absurd (omega (arith, long))
behind true false (low ∷ high ∷ octets) indicator fits long = record {
  spare = high / 2 ^ 6;
  spare_fits = omega (arith, fits 1);
  says = point-says low high octets (fits 0) (fits 1);
  point_fits = omega arith;
  ssn_fits = tt;
}
behind true true (low ∷ high ∷ []) indicator fits long = absurd (omega (arith, long))
behind true true (low ∷ high ∷ s ∷ octets) indicator fits long = record {
  spare = high / 2 ^ 6;
  spare_fits = omega (arith, fits 1);
  says = point-says low high (s ∷ octets) (fits 0) (fits 1);
  point_fits = omega arith;
  ssn_fits = fits 2;
}

indicator-said : (indicator : ℕ) (octets : List ℕ) → indicator < 2 ^ 8 → indicator ≡ indicator_octet (address_in (indicator ∷ octets))
indicator-said indicator octets h =
    bits-said indicator h ∙ sym (rw (some-if (is_set indicator 0) _, some-if (is_set indicator 1) _, by_ssn-routing (is_set indicator 6)) refl)

same-cons : (m n : ℕ) (xs ys : List ℕ) → m ≡ n → xs ≡ ys → m ∷ xs ≡ n ∷ ys
same-cons m n xs ys e f = cc

-- what address octets without fault say, they spell
pub is_address-read : (octets : List ℕ) (a : AddressValue) → AreOctets octets → read_address octets ≡ Ok a → IsAddress octets a
is_address-read [] a fits e = absurd cc
is_address-read (indicator ∷ octets) a fits e =
    let parts = unless-ok (address_fault (indicator ∷ octets)) (address_in (indicator ∷ octets)) a e in
    let long : title_place indicator ≤ length (indicator ∷ octets) = grind (arith, nat_tests, parts.0) in
    let b = behind (is_set indicator 0) (is_set indicator 1) octets indicator (λ i. fits (suc i)) long in
    subst (IsAddress (indicator ∷ octets)) parts.1 (record {
      spare = b.spare;
      spare_fits = b.spare_fits;
      says = same-cons _ _ _ _ (indicator-said indicator octets (fits 0)) b.says;
      value = record { title_indicator = omega arith; point = b.point_fits; ssn = b.ssn_fits };
    })

-- ---- an address is read

says-octet : (a : AddressValue) → IsAddressValue a
    → Says (indicator_octet a) (is_some a.point) (is_some a.ssn) (is_by_ssn a.routing) a.national a.title_indicator
says-octet a h = says-bits (is_some a.point) (is_some a.ssn) (is_by_ssn a.routing) a.national a.title_indicator (indicator_octet a) h.title_indicator refl

routing-said : (octet : ℕ) (b0 b1 b7 : Bool) (routing : Routing) (number : ℕ) → Says octet b0 b1 (is_by_ssn routing) b7 number
    → (if is_set octet 6 then Ssn else Title) ≡ routing
routing-said octet b0 b1 b7 routing number s = rw s.by_ssn (routing-by_ssn routing)

pub point-read : (point spare : ℕ) → point < 2 ^ 14 → spare < 2 ^ 2 → (point % 2 ^ 8 + (point / 2 ^ 8 + spare * 2 ^ 6) * 2 ^ 8) % 2 ^ 14 ≡ point
point-read point spare p s = omega arith

pub unless-none : {V : Type 0} (f : Option SccpFault) (v w : V) → f ≡ None → v ≡ w → unless f v ≡ Ok w
unless-none f v w e same = rw (e, same) refl

without-fault : (octet : ℕ) (octets : List ℕ) (a : AddressValue) → title_place octet ≤ length (octet ∷ octets) → address_in (octet ∷ octets) ≡ a
    → read_address (octet ∷ octets) ≡ Ok a
without-fault octet octets a h e = rw (le-ltb (length (octet ∷ octets)) (title_place octet) h, e) refl

read-with : (octet spare number : ℕ) (national : Bool) (routing : Routing) (point ssn : Option ℕ) (title : List ℕ) → spare < 2 ^ 2 → IfSome point (λ p. p < 2 ^ 14)
    → Says octet (is_some point) (is_some ssn) (is_by_ssn routing) national number
    → read_address (octet ∷ point_octets spare point ++ ssn_octets ssn ++ title)
    ≡ Ok (record { national = national; routing = routing; point = point; ssn = ssn; title_indicator = number; title = title })
read-with octet spare number national routing None None title f p s =
    let r = routing-said octet _ _ _ routing number s in
    without-fault octet (point_octets spare None ++ ssn_octets None ++ title) _ (rw (s.point, s.ssn) (omega arith)) (rw (s.point, s.ssn, r, s.national, s.title) refl)
read-with octet spare number national routing None (Some ssn) title f p s =
    let r = routing-said octet _ _ _ routing number s in
    without-fault octet (point_octets spare None ++ ssn_octets (Some ssn) ++ title) _ (rw (s.point, s.ssn) (omega arith)) (rw (s.point, s.ssn, r, s.national, s.title) refl)
read-with octet spare number national routing (Some point) None title f p s =
    let r = routing-said octet _ _ _ routing number s in
    without-fault octet (point_octets spare (Some point) ++ ssn_octets None ++ title) _ (rw (s.point, s.ssn) (omega arith)) (rw (s.point, s.ssn, r, s.national, s.title, point-read point spare p f) refl)
read-with octet spare number national routing (Some point) (Some ssn) title f p s =
    let r = routing-said octet _ _ _ routing number s in
    without-fault octet (point_octets spare (Some point) ++ ssn_octets (Some ssn) ++ title) _ (rw (s.point, s.ssn) (omega arith)) (rw (s.point, s.ssn, r, s.national, s.title, point-read point spare p f) refl)

-- an address is read as what it says
pub read_address-is_address : (octets : List ℕ) (a : AddressValue) → IsAddress octets a → read_address octets ≡ Ok a
read_address-is_address octets a h =
    rw h.says (read-with (indicator_octet a) h.spare a.title_indicator a.national a.routing a.point a.ssn a.title h.spare_fits h.value.point (says-octet a h.value))
