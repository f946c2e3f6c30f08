-- Octets are a management message that says something exactly if reading them gives it.
use Rattle.std.proofs.Common.{◌≡◌, ℕ, ◌+◌, ◌*◌, ◌/◌, ◌%◌, ◌^◌, ◌<◌, ◌≤◌, Bool, true, false, List, [], ◌∷◌, ◌++◌, length, Some, None, Result, Ok, Err, refl, sym, ap, subst, ◌∙◌, inl, inr, arith}
use Rattle.std.proofs.lemmas.Bool.{cases_eq, eq-eqb, ne_eqb, le-ltb}
use Rattle.std.proofs.lemmas.Bool.Decides.{nat_tests}
use Rattle.std.specs.Prelude.{slice_index, if◌then◌else◌, unwrap_or, nat_lt, IfOk, IfErr, IsOkAnd}
use Rattle.std.specs.Option.{is_none}
use Rattle.sccp_codec.specs.declared.fault.SccpFault.{SccpFault}
use Rattle.sccp_codec.specs.declared.fault.SccpFault.TheVariants.{Short, Kind}
use Rattle.sccp_codec.specs.declared.management.ManagementKind.{ManagementKind}
use Rattle.sccp_codec.specs.declared.management.ManagementKind.TheVariants.{SubsystemAllowed, SubsystemProhibited, SubsystemStatusTest}
use Rattle.sccp_codec.specs.declared.management.SubsystemManagement.{SubsystemManagement}
use Rattle.sccp_codec.specs.Messages.{AreOctets}
use Rattle.sccp_codec.specs.Management.{ManagementValue, IsManagement, format_of, kind_with, management_octets, management_fault, management_in, read_management, management_of}
use Rattle.sccp_codec.specs.Values.{Gives}
use Rattle.sccp_codec.proofs.AddressTexts.{unless-ok, unless-err, unless-none, point-says, point-read}

-- the kind of a format has this format
with-format : (format : ℕ) → is_none (kind_with format) ≡ false → format ≡ format_of (unwrap_or (kind_with format) SubsystemStatusTest)
with-format format e =
    elim (cases_eq format 1) [
      | inl one ↦ rw (eq-eqb format 1 one) one
      | inr not1 ↦
          elim (cases_eq format 2) [
            | inl two ↦ rw (ne_eqb format 1 not1, eq-eqb format 2 two) two
            | inr not2 ↦
                elim (cases_eq format 3) [
                  | inl three ↦ rw (ne_eqb format 1 not1, ne_eqb format 2 not2, eq-eqb format 3 three) three
                  | inr not3 ↦ let none : is_none (kind_with format) ≡ true = rw (ne_eqb format 1 not1, ne_eqb format 2 not2, ne_eqb format 3 not3) refl in absurd cc
                ]
          ]
    ]

of-format : (kind : ManagementKind) → kind_with (format_of kind) ≡ Some kind
of-format SubsystemAllowed = refl
of-format SubsystemProhibited = refl
of-format SubsystemStatusTest = refl

-- ---- what is read, the octets say

record IsLong (text : List ℕ) : Type 0 where
  pub known : is_none (kind_with (slice_index text 0)) ≡ false
  pub long : 5 ≤ length text

five : (unknown short : Bool) → (if unknown then Some Kind else if short then Some Short else None) ≡ None → (unknown ≡ false) × (short ≡ false)
five true short e = absurd cc
five false true e = absurd cc
five false false e = (refl, refl)

long-of : (format : ℕ) (rest : List ℕ) → management_fault (format ∷ rest) ≡ None → IsLong (format ∷ rest)
long-of format rest e =
    let some = ne_eqb (length (format ∷ rest)) 0 (λ none. omega (arith, none)) in
    let tests = five (is_none (kind_with format)) (nat_lt (length (format ∷ rest)) 5) (sym (rw some refl) ∙ e) in
    record { known = tests.0; long = grind (arith, nat_tests, tests.1) }

is_management-long : (text : List ℕ) → AreOctets text → IsLong text → IsManagement text (management_in text)
is_management-long [] fits h = absurd (omega (arith, h.long))
is_management-long (a ∷ []) fits h = absurd (omega (arith, h.long))
is_management-long (a ∷ b ∷ []) fits h = absurd (omega (arith, h.long))
is_management-long (a ∷ b ∷ c ∷ []) fits h = absurd (omega (arith, h.long))
is_management-long (a ∷ b ∷ c ∷ d ∷ []) fits h = absurd (omega (arith, h.long))
is_management-long (format ∷ ssn ∷ low ∷ high ∷ multiplicity ∷ behind) fits h = record {
  spare = high / 2 ^ 6;
  spare_fits = omega (arith, fits 3);
  rest = behind;
  says = ap (λ (octets : List ℕ). format ∷ ssn ∷ octets) (point-says low high (multiplicity ∷ behind) (fits 2) (fits 3))
      ∙ ap (λ (n : ℕ). n ∷ ssn ∷ (low + high * 2 ^ 8) % 2 ^ 14 % 2 ^ 8 ∷ ((low + high * 2 ^ 8) % 2 ^ 14 / 2 ^ 8 + high / 2 ^ 6 * 2 ^ 6) ∷ multiplicity ∷ behind) (with-format format h.known);
  point = omega arith;
}

management-long : (text : List ℕ) → management_fault text ≡ None → IsLong text
management-long [] e = absurd cc
management-long (format ∷ rest) e = long-of format rest e

pub is_management-read : (text : List ℕ) (v : ManagementValue) → AreOctets text → read_management text ≡ Ok v → IsManagement text v
is_management-read text v fits e =
    let read = unless-ok (management_fault text) (management_in text) v e in
    subst (IsManagement text) read.1 (is_management-long text fits (management-long text read.0))

-- ---- what the octets say is read

read-said : (spare : ℕ) (v : ManagementValue) (behind : List ℕ) → spare < 2 ^ 2 → v.point < 2 ^ 14 → read_management (management_octets spare v ++ behind) ≡ Ok v
read-said spare v behind s p =
    let text = management_octets spare v ++ behind in
    let some = ne_eqb (length text) 0 (λ none. omega (arith, none)) in
    let kind = of-format v.kind in
    let long = le-ltb (length text) 5 (omega arith) in
    let well : management_fault text ≡ None = rw (some, kind, long) refl in
    unless-none (management_fault text) (management_in text) v well (rw (kind, point-read v.point spare p s) refl)

pub read_management-is_management : (text : List ℕ) (v : ManagementValue) → IsManagement text v → read_management text ≡ Ok v
read_management-is_management text v h = ap read_management h.says ∙ read-said h.spare v h.rest h.spare_fits h.point

pub one-management : (text : List ℕ) (v w : ManagementValue) → IsManagement text v → IsManagement text w → v ≡ w
one-management text v w h k = let a = read_management-is_management text v h in let b = read_management-is_management text w k in cc

-- ---- what is written

pub written-is_management : (v : ManagementValue) → v.point < 2 ^ 14 → IsManagement (management_octets 0 v) v
written-is_management v h = record { spare = 0; spare_fits = omega arith; rest = []; says = refl; point = h }

pub read_management-written : (v : ManagementValue) → v.point < 2 ^ 14 → read_management (management_octets 0 v) ≡ Ok v
read_management-written v h = read_management-is_management (management_octets 0 v) v (written-is_management v h)

-- ---- the same, of what the code answers

pub value-management : (text : List ℕ) (result : Result SubsystemManagement SccpFault) → AreOctets text → Gives management_of result (read_management text)
    → IfOk result (λ message. IsManagement text (management_of message))
value-management text (Ok message) fits e = is_management-read text (management_of message) fits e
value-management text (Err fault) fits e = tt

pub only-management : (text : List ℕ) (result : Result SubsystemManagement SccpFault) → Gives management_of result (read_management text) → (v : ManagementValue) → IsManagement text v
    → IsOkAnd result (λ message. management_of message ≡ v)
only-management text (Ok message) e v h = let r = read_management-is_management text v h in cc
only-management text (Err fault) e v h = let r = read_management-is_management text v h in absurd cc

pub fault-management : (text : List ℕ) (result : Result SubsystemManagement SccpFault) → Gives management_of result (read_management text) → IfErr result (λ fault. management_fault text ≡ Some fault)
fault-management text (Ok message) e = tt
fault-management text (Err fault) e = unless-err (management_fault text) (management_in text) fault e
