-- The optional parameters that a returned message keeps.
use Rattle.std.proofs.Common.{◌≡◌, ℕ, true, List, [], ◌∷◌, ◌++◌, length, Option, Some, None, refl, sym, ap, inl, inr, arith, ◌∙◌, not}
use Rattle.std.proofs.lemmas.Bool.{and_parts, cases_eq, eq-eqb, ne_eqb}
use Rattle.std.specs.List.{list_all}
use Rattle.std.specs.Prelude.{◌==◌}
use Rattle.sccp_codec.specs.Extended.{ParameterValue, first_named, has_its_length, is_parameter, parameters_octets, read_parameters}
use Rattle.sccp_codec.specs.Optional.{OptionallyGives}
use Rattle.sccp_codec.proofs.OptionalTexts.{read-back}
use Rattle.sccp_relay.specs.Returning.{parameter_of}

-- ---- their octets read as them

pub both : (a b d e octet : ℕ) → read_parameters (16 ∷ 4 ∷ a ∷ b ∷ d ∷ e ∷ 18 ∷ 1 ∷ octet ∷ 0 ∷ []) ≡ Some (parameter_of 16 (Some (a ∷ b ∷ d ∷ e ∷ [])) ++ parameter_of 18 (Some (octet ∷ [])))
both a b d e octet = read-back (record { name = 16; octets = a ∷ b ∷ d ∷ e ∷ [] } ∷ record { name = 18; octets = octet ∷ [] } ∷ []) [] refl

pub first-alone : (a b d e : ℕ) → read_parameters (16 ∷ 4 ∷ a ∷ b ∷ d ∷ e ∷ 0 ∷ 0 ∷ 0 ∷ 0 ∷ []) ≡ Some (parameter_of 16 (Some (a ∷ b ∷ d ∷ e ∷ [])) ++ parameter_of 18 None)
first-alone a b d e = read-back (record { name = 16; octets = a ∷ b ∷ d ∷ e ∷ [] } ∷ []) (0 ∷ 0 ∷ 0 ∷ []) refl

pub second-alone : (octet : ℕ) → read_parameters (18 ∷ 1 ∷ octet ∷ 0 ∷ 0 ∷ 0 ∷ 0 ∷ 0 ∷ 0 ∷ 0 ∷ []) ≡ Some (parameter_of 16 None ++ parameter_of 18 (Some (octet ∷ [])))
second-alone octet = read-back (record { name = 18; octets = octet ∷ [] } ∷ []) (0 ∷ 0 ∷ 0 ∷ 0 ∷ 0 ∷ 0 ∷ []) refl

pub neither : read_parameters (0 ∷ 0 ∷ 0 ∷ 0 ∷ 0 ∷ 0 ∷ 0 ∷ 0 ∷ 0 ∷ 0 ∷ []) ≡ Some (parameter_of 16 None ++ parameter_of 18 None)
neither = read-back [] (0 ∷ 0 ∷ 0 ∷ 0 ∷ 0 ∷ 0 ∷ 0 ∷ 0 ∷ 0 ∷ []) refl

-- ---- the first of a name

-- there is none among no octets
pub none-named : (name : ℕ) (octets : List ℕ) (ps : List ParameterValue) → octets ≡ parameters_octets ps → length octets ≡ 0 → first_named name ps ≡ None
none-named name octets [] same none = refl
none-named name octets (p ∷ ps) same none = absurd (omega (arith, none, ap length same))

-- it has the length of its name
pub named-length : (name : ℕ) (octets : List ℕ) (ps : List ParameterValue) → list_all is_parameter ps ≡ true → first_named name ps ≡ Some octets
    → has_its_length name (length octets) ≡ true
named-length name octets [] legal e = absurd cc
named-length name octets (p ∷ ps) legal e =
    elim (cases_eq p.name name) [
      | inl same ↦
          let these : p.octets ≡ octets = let found : Some p.octets ≡ Some octets = sym (rw (eq-eqb p.name name same) refl) ∙ e in cc in
          let here : has_its_length p.name (length p.octets) ≡ true = (and_parts (not (p.name == 0)) _ (and_parts (is_parameter p) _ legal).0).1 in
          rw (← same, ← these) here
      | inr other ↦ named-length name octets ps (and_parts (is_parameter p) _ legal).1 (sym (rw (ne_eqb p.name name other) refl) ∙ e)
    ]

pub gives-some : {X V : Type 0} (view : X → V) (answer : Option X) (x : X) (read : Option V) → OptionallyGives view answer read → answer ≡ Some x → read ≡ Some (view x)
gives-some view (Some y) x read h e = let same : y ≡ x = cc in h ∙ ap (λ (z : _). Some (view z)) same
gives-some view None x read h e = absurd cc
