-- The first parameter of a name among the octets of parameters.
use Rattle.std.proofs.Common.{◌≡◌, ◌≢◌, ℕ, ◌+◌, true, false, List, [], ◌∷◌, length, Some, None, refl, sym, ap, subst, ◌∙◌, arith}
use Rattle.std.proofs.lemmas.Bool.{eq-eqb, ne_eqb}
use Rattle.std.proofs.lemmas.Bool.Decides.{nat_tests}
use Rattle.std.proofs.lemmas.List.{length-append, take_at, drop_at}
use Rattle.std.specs.Prelude.{slice_index}
use Rattle.sccp_codec.specs.Extended.{ParameterValue, first_named, parameters_octets, is_there, first_parameter, after_first}

-- what is left of the octets of these parameters is parameters, and the first of this name is the same
pub record Left (all : List ParameterValue) (name : ℕ) (rest : List ℕ) : Type 0 where
  pub parameters : List ParameterValue
  pub there : rest ≡ parameters_octets parameters
  pub same : first_named name parameters ≡ first_named name all

found-first : (all ps : List ParameterValue) (name : ℕ) → first_named name ps ≡ first_named name all → is_there (parameters_octets ps) ≡ true → slice_index (parameters_octets ps) 0 ≡ name
    → first_named name all ≡ Some (first_parameter (parameters_octets ps)).octets
found-first all [] name same there is = absurd (grind (arith, nat_tests, there))
found-first all (p ∷ ps) name same there is =
    sym same ∙ rw (eq-eqb p.name name is) (ap Some (sym (take_at p.octets (parameters_octets ps) (length p.octets) refl)))

pub found-in : (all : List ParameterValue) (name : ℕ) (rest : List ℕ) → Left all name rest → is_there rest ≡ true → slice_index rest 0 ≡ name
    → first_named name all ≡ Some (first_parameter rest).octets
found-in all name rest l there is =
    subst (λ (octets : List ℕ). is_there octets ≡ true → slice_index octets 0 ≡ name → first_named name all ≡ Some (first_parameter octets).octets) (sym l.there)
    (found-first all l.parameters name l.same) there is

next-first : (all ps : List ParameterValue) (name : ℕ) → first_named name ps ≡ first_named name all → is_there (parameters_octets ps) ≡ true → slice_index (parameters_octets ps) 0 ≢ name
    → Left all name (after_first (parameters_octets ps))
next-first all [] name same there other = absurd (grind (arith, nat_tests, there))
next-first all (p ∷ ps) name same there other = record {
  parameters = ps;
  there = drop_at (p.name ∷ length p.octets ∷ p.octets) (parameters_octets ps) (2 + length p.octets) (omega arith);
  same = sym (rw (ne_eqb p.name name other) refl) ∙ same;
}

pub next-in : (all : List ParameterValue) (name : ℕ) (rest : List ℕ) → Left all name rest → is_there rest ≡ true → slice_index rest 0 ≢ name → Left all name (after_first rest)
next-in all name rest l there other =
    subst (λ (octets : List ℕ). is_there octets ≡ true → slice_index octets 0 ≢ name → Left all name (after_first octets)) (sym l.there)
    (next-first all l.parameters name l.same) there other

none-first : (all ps : List ParameterValue) (name : ℕ) → first_named name ps ≡ first_named name all → is_there (parameters_octets ps) ≡ false → first_named name all ≡ None
none-first all [] name same out = sym same
none-first all (p ∷ ps) name same out = absurd (grind (arith, nat_tests, out, length-append p.octets (parameters_octets ps)))

pub none-in : (all : List ParameterValue) (name : ℕ) (rest : List ℕ) → Left all name rest → is_there rest ≡ false → first_named name all ≡ None
none-in all name rest l out = none-first all l.parameters name l.same (ap is_there (sym l.there) ∙ out)
