-- Octets are an extended message that says something exactly if reading them gives it.
use Rattle.std.proofs.Common.{◌≡◌, ℕ, ◌+◌, ◌<◌, ◌≤◌, ◌⊎◌, Bool, true, List, [], ◌∷◌, ◌++◌, length, take, drop, Option, Some, None, Result, Ok, Err, refl, sym, ap, subst, ◌∙◌, inl, inr, append_assoc, arith}
use Rattle.std.proofs.lemmas.Bool.{cases_eq, eq-eqb, ne_eqb}
use Rattle.std.proofs.lemmas.Bool.Decides.{nat_tests}
use Rattle.std.proofs.lemmas.List.{length-append}
use Rattle.std.proofs.Math.Seq.{drop-append_seam}
use Rattle.std.specs.List.{list_all}
use Rattle.std.specs.Prelude.{slice_index, if◌then◌else◌, ◌==◌, is_some, unwrap_or, IfOk, IfErr, OnOk, IsOkAnd}
use Rattle.signalling_types.specs.declared.cause.Cause.{Cause}
use Rattle.sccp_codec.specs.declared.fault.SccpFault.{SccpFault}
use Rattle.sccp_codec.specs.declared.fault.SccpFault.TheVariants.{Pointer}
use Rattle.sccp_codec.specs.declared.extended.ExtendedKind.{ExtendedKind}
use Rattle.sccp_codec.specs.declared.extended.ExtendedKind.TheVariants.{Xudt, Xudts}
use Rattle.sccp_codec.specs.declared.extended.ExtendedUnitdata.{ExtendedUnitdata}
use Rattle.sccp_codec.specs.Messages.{AreOctets, IsPart, counted, length_place, address_octets, header_fault, parts_fault}
use Rattle.sccp_codec.specs.Extended.{ParameterValue, ExtendedValue, HasOptional, IsExtended, IsExtendedValue, is_parameter, type_of, after_type, parameters_octets, optional_octets, optional_pointer, after_parts, extended_octets, read_parameters, read_optional, optional_fault, extended_fault, extended_in, read_extended}
use Rattle.sccp_codec.specs.Values.{Gives}
use Rattle.sccp_codec.specs.ExtendedValues.{extended_of}
use Rattle.sccp_codec.proofs.AddressTexts.{unless-ok, unless-err, unless-none}
use Rattle.sccp_codec.proofs.MessageTexts.{first-none, none-first, header-well, parts_well, has_address-read, is_part-read, reads_parts, between, spelled-address}
use Rattle.sccp_codec.proofs.OptionalTexts.{begin-read, read-back}

-- ---- the optional part

nil-of : (ps : List ParameterValue) → Some [] ≡ Some ps → ps ≡ []
nil-of [] e = refl
nil-of (p ∷ ps) e = absurd cc

has_optional-read : (text : List ℕ) (pointer : ℕ) (ps : List ParameterValue) → read_optional text pointer ≡ Some ps → HasOptional text pointer ps
has_optional-read text pointer ps e =
    elim (cases_eq (slice_index text pointer) 0) [
      | inl none ↦ inl (none, nil-of ps (sym (rw (eq-eqb (slice_index text pointer) 0 none) refl) ∙ e))
      | inr other ↦ inr (omega (arith, other), begin-read (length (drop (length_place text pointer) text)) (drop (length_place text pointer) text) ps (sym (rw (ne_eqb (slice_index text pointer) 0 other) refl) ∙ e))
    ]

read_optional-has : (text : List ℕ) (pointer : ℕ) (ps : List ParameterValue) → HasOptional text pointer ps → read_optional text pointer ≡ Some ps
read_optional-has text pointer ps (inl h) = rw (eq-eqb (slice_index text pointer) 0 h.0, h.1) refl
read_optional-has text pointer ps (inr h) =
    rw (ne_eqb (slice_index text pointer) 0 (λ none. omega (arith, none, h.0))) (ap read_parameters h.1.says ∙ read-back ps h.1.rest h.1.legal)

well-some : (o : Option (List ParameterValue)) → (if is_some o then None else Some Pointer) ≡ None → o ≡ Some (unwrap_or o [])
well-some None e = absurd cc
well-some (Some ps) e = refl

-- ---- what is read, the octets say

kind-types : (first second : ℕ) → (first ≡ 17) ⊎ (first ≡ 18) → (first ≡ type_of (if first == 17 then Xudt second else Xudts second)) × (second ≡ after_type (if first == 17 then Xudt second else Xudts second))
kind-types first second (inl one) = rw (eq-eqb first 17 one) (one, refl)
kind-types first second (inr other) = rw (ne_eqb first 17 (λ one. omega (arith, one, other))) (other, refl)

is_extended-in : (text : List ℕ) → AreOctets text → extended_fault text ≡ None → IsExtended text (extended_in text)
is_extended-in text fits e =
    let a = first-none (header_fault 17 18 7 text) (parts_fault 3 7 text ∷ optional_fault text 6 ∷ []) e in
    let b = first-none (parts_fault 3 7 text) (optional_fault text 6 ∷ []) a.1 in
    let c = first-none (optional_fault text 6) [] b.1 in
    let header = header-well 17 18 7 text a.0 in
    let parts = parts_well 3 7 text b.0 in
    let kind = kind-types (slice_index text 0) (slice_index text 1) header.kind in
    record {
      long = header.long;
      type = kind.0;
      second = kind.1;
      hops = refl;
      called = has_address-read 7 text 3 fits parts.called parts.called_address;
      calling = has_address-read 7 text 4 fits parts.calling parts.calling_address;
      carried = is_part-read 7 text 5 parts.carried;
      optional = has_optional-read text 6 _ (well-some (read_optional text 6) c.0);
    }

pub is_extended-read : (text : List ℕ) (v : ExtendedValue) → AreOctets text → read_extended text ≡ Ok v → IsExtended text v
is_extended-read text v fits e =
    let read = unless-ok (extended_fault text) (extended_in text) v e in
    subst (IsExtended text) read.1 (is_extended-in text fits read.0)

-- ---- what the octets say is read

kind-said : (first second : ℕ) (kind : ExtendedKind) → first ≡ type_of kind → second ≡ after_type kind → (if first == 17 then Xudt second else Xudts second) ≡ kind
kind-said first second (Xudt class_octet) f s = rw (eq-eqb first 17 f) (ap Xudt s)
kind-said first second (Xudts return_cause) f s = rw (ne_eqb first 17 (λ one. omega (arith, one, f))) (ap Xudts s)

no-header_fault : (text : List ℕ) (kind : ExtendedKind) → 7 ≤ length text → slice_index text 0 ≡ type_of kind → header_fault 17 18 7 text ≡ None
no-header_fault text (Xudt class_octet) long kind = grind (arith, nat_tests, long, kind)
no-header_fault text (Xudts return_cause) long kind = grind (arith, nat_tests, long, kind)

pub read_extended-is_extended : (text : List ℕ) (v : ExtendedValue) → IsExtended text v → read_extended text ≡ Ok v
read_extended-is_extended text v h =
    let parts = reads_parts 3 7 text v.parts h.called h.calling h.carried in
    let optional = read_optional-has text 6 v.optional h.optional in
    let kind = kind-said (slice_index text 0) (slice_index text 1) v.kind h.type h.second in
    let well : optional_fault text 6 ≡ None = rw optional refl in
    unless-none (extended_fault text) (extended_in text) v
    (none-first (header_fault 17 18 7 text) (parts_fault 3 7 text ∷ optional_fault text 6 ∷ []) (no-header_fault text v.kind h.long h.type)
    (none-first (parts_fault 3 7 text) (optional_fault text 6 ∷ []) parts.well (none-first (optional_fault text 6) [] well refl)))
    (rw (kind, h.hops, parts.same, optional) refl)

pub one-extended : (text : List ℕ) (v w : ExtendedValue) → IsExtended text v → IsExtended text w → v ≡ w
one-extended text v w h k = let a = read_extended-is_extended text v h in let b = read_extended-is_extended text w k in cc

-- ---- what is written

-- the parts after seven octets, and what comes after them
record Placed (text called calling carried behind : List ℕ) : Type 0 where
  pub called_part : IsPart 7 text 3 called
  pub calling_part : IsPart 7 text 4 calling
  pub carried_part : IsPart 7 text 5 carried
  pub rest : drop (6 + (4 + length called + length calling + length carried)) text ≡ behind

placed : (first second hops pointer : ℕ) (called calling carried behind : List ℕ)
    → Placed ((first ∷ second ∷ hops ∷ []) ++ (4 ∷ (4 + length called) ∷ (4 + length called + length calling) ∷ pointer ∷ [])
    ++ (counted called ++ counted calling ++ counted carried) ++ behind) called calling carried behind
placed first second hops pointer called calling carried behind =
    let head : List ℕ = first ∷ second ∷ hops ∷ 4 ∷ (4 + length called) ∷ (4 + length called + length calling) ∷ pointer ∷ [] in
    let text = head ++ (counted called ++ counted calling ++ counted carried) ++ behind in
    let one = length-append head (counted called) in
    let two = length-append (head ++ counted called) (counted calling) in
    let three = length-append (head ++ counted called ++ counted calling) (counted carried) in
    let whole : text ≡ (head ++ counted called ++ counted calling ++ counted carried) ++ behind = grind (arith, append_assoc {A = ℕ}) in
    let place : 6 + (4 + length called + length calling + length carried) ≡ length (head ++ counted called ++ counted calling ++ counted carried) = omega (arith, one, two, three) in
    record {
      called_part = between 7 text head called (counted calling ++ counted carried ++ behind) 3 (grind (arith, append_assoc {A = ℕ})) refl (omega arith);
      calling_part = between 7 text (head ++ counted called) calling (counted carried ++ behind) 4 (grind (arith, append_assoc {A = ℕ})) (omega (arith, one)) (omega (arith, one));
      carried_part = between 7 text (head ++ counted called ++ counted calling) carried behind 5 (grind (arith, append_assoc {A = ℕ})) (omega (arith, one, two)) (omega (arith, one, two));
      rest = ap (λ (n : ℕ). drop n text) place ∙ ap (drop (length (head ++ counted called ++ counted calling ++ counted carried))) whole
          ∙ drop-append_seam (head ++ counted called ++ counted calling ++ counted carried) behind;
    }

has_optional-written : (text : List ℕ) (away : ℕ) (ps : List ParameterValue) → 0 < away → list_all is_parameter ps ≡ true → slice_index text 6 ≡ optional_pointer ps away
    → drop (6 + away) text ≡ optional_octets ps → HasOptional text 6 ps
has_optional-written text away [] some legal pointer e = inl (pointer, refl)
has_optional-written text away (p ∷ ps) some legal pointer e =
    let more = ne_eqb (length (p ∷ ps)) 0 (λ none. omega (arith, none)) in
    let there : slice_index text 6 ≡ away = pointer ∙ ap (λ (none : Bool). if none then 0 else away) more in
    let octets : drop (6 + away) text ≡ parameters_octets (p ∷ ps) ++ 0 ∷ [] = e ∙ ap (λ (none : Bool). if none then [] else parameters_octets (p ∷ ps) ++ 0 ∷ []) more in
    inr (rw there some, record { rest = []; says = ap (λ (n : ℕ). drop (6 + n) text) there ∙ octets; legal = legal })

pub written-is_extended : (v : ExtendedValue) → IsExtendedValue v → IsExtended (extended_octets v) v
written-is_extended v h =
    let called = address_octets 0 v.parts.called in
    let calling = address_octets 0 v.parts.calling in
    let p = placed (type_of v.kind) (after_type v.kind) v.hop_counter (optional_pointer v.optional (after_parts v.parts)) called calling v.parts.data (optional_octets v.optional) in
    record {
      long = omega arith;
      type = refl;
      second = refl;
      hops = refl;
      called = record { octets = called; part = p.called_part; address = spelled-address called v.parts.called h.parts.called refl };
      calling = record { octets = calling; part = p.calling_part; address = spelled-address calling v.parts.calling h.parts.calling refl };
      carried = p.carried_part;
      optional = has_optional-written (extended_octets v) (after_parts v.parts) v.optional (omega arith) h.optional refl p.rest;
    }

pub read_extended-written : (v : ExtendedValue) → IsExtendedValue v → read_extended (extended_octets v) ≡ Ok v
read_extended-written v h = read_extended-is_extended (extended_octets v) v (written-is_extended v h)

-- ---- the same, of what the code answers

pub back-extended : (label : List ℕ) (v : ExtendedValue) (result : Result ℕ Cause) (field : List ℕ) → length label ≡ 4
    → IfOk result (λ count. take count field ≡ label ++ extended_octets v) → OnOk result (IsExtendedValue v)
    → IfOk result (λ count. read_extended (drop 4 (take count field)) ≡ Ok v)
back-extended label v (Ok count) field four text h =
    let behind : drop 4 (label ++ extended_octets v) ≡ extended_octets v = ap (λ (n : ℕ). drop n (label ++ extended_octets v)) (sym four) ∙ drop-append_seam label (extended_octets v) in
    rw text (ap read_extended behind ∙ read_extended-written v h)
back-extended label v (Err cause) field four text h = tt

pub value-extended : (text : List ℕ) (result : Result ExtendedUnitdata SccpFault) → AreOctets text → Gives extended_of result (read_extended text)
    → IfOk result (λ message. IsExtended text (extended_of message))
value-extended text (Ok message) fits e = is_extended-read text (extended_of message) fits e
value-extended text (Err fault) fits e = tt

pub only-extended : (text : List ℕ) (result : Result ExtendedUnitdata SccpFault) → Gives extended_of result (read_extended text) → (v : ExtendedValue) → IsExtended text v
    → IsOkAnd result (λ message. extended_of message ≡ v)
only-extended text (Ok message) e v h = let r = read_extended-is_extended text v h in cc
only-extended text (Err fault) e v h = let r = read_extended-is_extended text v h in absurd cc

pub fault-extended : (text : List ℕ) (result : Result ExtendedUnitdata SccpFault) → Gives extended_of result (read_extended text) → IfErr result (λ fault. extended_fault text ≡ Some fault)
fault-extended text (Ok message) e = tt
fault-extended text (Err fault) e = unless-err (extended_fault text) (extended_in text) fault e
