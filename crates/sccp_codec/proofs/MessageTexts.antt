-- Octets are a message that says something exactly when reading them gives it.
use Rattle.std.proofs.Common.{◌≡◌, ℕ, suc, ◌+◌, ◌-◌, ◌<◌, ◌≤◌, ◌⊎◌, List, [], ◌∷◌, ◌++◌, length, take, drop, Option, Some, None, Result, Ok, Err, refl, sym, ap, subst, ◌∙◌, inl, inr, append_assoc, arith}
use Rattle.std.proofs.lemmas.Bool.{cases_eq, cases_lt, eq-eqb, ne_eqb, le-ltb, lt-leb}
use Rattle.std.proofs.lemmas.Bool.Decides.{nat_tests}
use Rattle.std.proofs.lemmas.List.{drop_more, get_or_past, get_or-drop, get_or-take, length-drop, length-take, length-take-le, take-append-drop, length-append, append-nil}
use Rattle.std.proofs.Math.Seq.{drop-append_seam, take-append_seam}
use Rattle.std.specs.Prelude.{slice_index, IfOk, IfErr, OnOk, IsOkAnd}
use Rattle.signalling_types.specs.declared.cause.Cause.{Cause}
use Rattle.sccp_codec.specs.declared.fault.SccpFault.{SccpFault}
use Rattle.sccp_codec.specs.declared.unitdata.Unitdata.{Unitdata}
use Rattle.sccp_codec.specs.Messages.{AddressValue, IsAddress, IsAddressValue, AreOctets, address_octets, PartsValue, UnitdataValue, UdtValue, UdtsValue, IsPart, HasAddress, IsUnitdata, IsUnitdataValue, kind_of, second_of, parts_of, length_place, spelled, laid_out, counted, unless, first_fault, address_fault, address_in, header_fault, pointer_fault, part_at, part_length, parts_fault, parts_in, fault_of, value_in, read_unitdata}
use Rattle.sccp_codec.specs.Values.{unitdata_of, Gives}
use Rattle.sccp_codec.proofs.AddressTexts.{unless-ok, unless-err, unless-none, is_address-read, read_address-is_address}

-- ---- the first of several faults

pub first-none : (f : Option SccpFault) (others : List (Option SccpFault)) → first_fault (f ∷ others) ≡ None → (f ≡ None) × (first_fault others ≡ None)
first-none None others e = (refl, e)
first-none (Some g) others e = absurd cc

pub none-first : (f : Option SccpFault) (others : List (Option SccpFault)) → f ≡ None → first_fault others ≡ None → first_fault (f ∷ others) ≡ None
none-first f others e h = rw e h

-- ---- a part

pub part-octets : (text : List ℕ) (pointer : ℕ) → AreOctets text → AreOctets (part_at text pointer)
part-octets text pointer fits i =
    elim (cases_lt i (part_length text pointer)) [
      | inl below ↦ rw (get_or-take (part_length text pointer) (drop (length_place text pointer + 1) text) i 0 below, get_or-drop (length_place text pointer + 1) text i 0) (fits (length_place text pointer + 1 + i))
      | inr past ↦ rw (get_or_past (part_at text pointer) i 0 (omega (arith, past, length-take (part_length text pointer) (drop (length_place text pointer + 1) text)))) (omega arith)
    ]

pub is_part-read : (start : ℕ) (text : List ℕ) (pointer : ℕ) → pointer_fault start text pointer ≡ None → IsPart start text pointer (part_at text pointer)
is_part-read start text pointer e =
    let behind : start ≤ length_place text pointer = grind (arith, nat_tests, e) in
    let within : length_place text pointer < length text = grind (arith, nat_tests, e) in
    let whole : length_place text pointer + 1 + part_length text pointer ≤ length text = grind (arith, nat_tests, e) in
    let rest = drop (length_place text pointer + 1) text in
    let n : length (part_at text pointer) ≡ part_length text pointer = length-take-le (part_length text pointer) rest (omega (arith, length-drop (length_place text pointer + 1) text)) in
    record {
      behind = behind;
      rest = drop (part_length text pointer) rest;
      there = drop_more text (length_place text pointer) 0 within
          ∙ ap (λ (rest : List ℕ). part_length text pointer ∷ rest) (sym (take-append-drop (part_length text pointer) rest))
          ∙ ap (λ (n : ℕ). n ∷ part_at text pointer ++ drop (part_length text pointer) rest) (sym n);
    }

pub record ReadsPart (start : ℕ) (text : List ℕ) (pointer : ℕ) (part : List ℕ) : Type 0 where
  pub well : pointer_fault start text pointer ≡ None
  pub same : part_at text pointer ≡ part

pub reads_part-is_part : (start : ℕ) (text : List ℕ) (pointer : ℕ) (part : List ℕ) → IsPart start text pointer part → ReadsPart start text pointer part
reads_part-is_part start text pointer part h =
    let place = length_place text pointer in
    let long : length text - place ≡ suc (length (part ++ h.rest)) = sym (length-drop place text) ∙ ap length h.there in
    let within : place < length text = omega arith in
    let more = drop_more text place 0 within in
    let there = h.there in
    let n : part_length text pointer ≡ length part = cc in
    let rest : drop (place + 1) text ≡ part ++ h.rest = cc in
    let whole : place + 1 + part_length text pointer ≤ length text = omega (arith, length-append part h.rest) in
    record {
      well = rw (le-ltb place start h.behind, lt-leb (length text) place within, le-ltb (length text) (place + 1 + part_length text pointer) whole) refl;
      same = rw (n, rest) (take-append_seam part h.rest);
    }

-- ---- a text without fault

pub record IsHeader (message service start : ℕ) (text : List ℕ) : Type 0 where
  pub long : start ≤ length text
  pub kind : (slice_index text 0 ≡ message) ⊎ (slice_index text 0 ≡ service)

pub header-well : (message service start : ℕ) (text : List ℕ) → header_fault message service start text ≡ None → IsHeader message service start text
header-well message service start text e = record {
  long = grind (arith, nat_tests, e);
  kind =
      elim (cases_eq (slice_index text 0) message) [
        | inl udt ↦ inl udt
        | inr other ↦ inr (grind (arith, nat_tests, e, other))
      ];
}

pub record PartsWell (pointers start : ℕ) (text : List ℕ) : Type 0 where
  pub called : pointer_fault start text pointers ≡ None
  pub calling : pointer_fault start text (pointers + 1) ≡ None
  pub carried : pointer_fault start text (pointers + 2) ≡ None
  pub called_address : address_fault (part_at text pointers) ≡ None
  pub calling_address : address_fault (part_at text (pointers + 1)) ≡ None

pub parts_well : (pointers start : ℕ) (text : List ℕ) → parts_fault pointers start text ≡ None → PartsWell pointers start text
parts_well pointers start text e =
    let a = first-none (pointer_fault start text pointers) _ e in
    let b = first-none (pointer_fault start text (pointers + 1)) _ a.1 in
    let c = first-none (pointer_fault start text (pointers + 2)) _ b.1 in
    let d = first-none (address_fault (part_at text pointers)) _ c.1 in
    let f = first-none (address_fault (part_at text (pointers + 1))) _ d.1 in
    record { called = a.0; calling = b.0; carried = c.0; called_address = d.0; calling_address = f.0 }

no-parts_fault : (pointers start : ℕ) (text : List ℕ) → PartsWell pointers start text → parts_fault pointers start text ≡ None
no-parts_fault pointers start text w = rw (w.called, w.calling, w.carried, w.called_address, w.calling_address) refl

-- the value has the octets before the parts, and the parts
record SaysHeader (text : List ℕ) (v : UnitdataValue) : Type 0 where
  pub kind : slice_index text 0 ≡ kind_of v
  pub second : slice_index text 1 ≡ second_of v
  pub parts : parts_in 2 text ≡ parts_of v

value-says : (text : List ℕ) → IsHeader 9 10 5 text → SaysHeader text (value_in text)
value-says text h =
    elim h.kind [
      | inl udt ↦ rw (eq-eqb (slice_index text 0) 9 udt) (record { kind = udt; second = refl; parts = refl })
      | inr udts ↦ rw (ne_eqb (slice_index text 0) 9 (λ udt. omega (arith, udt, udts))) (record { kind = udts; second = refl; parts = refl })
    ]

-- ---- what is read, the octets say

pub has_address-read : (start : ℕ) (text : List ℕ) (pointer : ℕ) → AreOctets text → pointer_fault start text pointer ≡ None → address_fault (part_at text pointer) ≡ None
    → HasAddress start text pointer (address_in (part_at text pointer))
has_address-read start text pointer fits e f = record {
  octets = part_at text pointer;
  part = is_part-read start text pointer e;
  address = is_address-read (part_at text pointer) _ (part-octets text pointer fits) (ap (λ (fault : Option SccpFault). unless fault (address_in (part_at text pointer))) f);
}

is_unitdata-parts : (text : List ℕ) (v : UnitdataValue) → AreOctets text → IsHeader 9 10 5 text → SaysHeader text v → PartsWell 2 5 text → IsUnitdata text v
is_unitdata-parts text v fits h says well = record {
  long = h.long;
  kind = says.kind;
  second = says.second;
  called = subst (λ (p : PartsValue). HasAddress 5 text 2 p.called) says.parts (has_address-read 5 text 2 fits well.called well.called_address);
  calling = subst (λ (p : PartsValue). HasAddress 5 text 3 p.calling) says.parts (has_address-read 5 text 3 fits well.calling well.calling_address);
  carried = subst (λ (p : PartsValue). IsPart 5 text 4 p.data) says.parts (is_part-read 5 text 4 well.carried);
}

pub is_unitdata-read : (text : List ℕ) (v : UnitdataValue) → AreOctets text → read_unitdata text ≡ Ok v → IsUnitdata text v
is_unitdata-read text v fits e =
    let parts = unless-ok (fault_of text) (value_in text) v e in
    let well = first-none (header_fault 9 10 5 text) (parts_fault 2 5 text ∷ []) parts.0 in
    let header = header-well 9 10 5 text well.0 in
    is_unitdata-parts text v fits header (subst (SaysHeader text) parts.1 (value-says text header)) (parts_well 2 5 text (first-none (parts_fault 2 5 text) [] well.1).0)

-- ---- what the octets say is read

no-header_fault : (text : List ℕ) (v : UnitdataValue) → 5 ≤ length text → slice_index text 0 ≡ kind_of v → header_fault 9 10 5 text ≡ None
no-header_fault text (UdtValue class_octet parts) long kind = grind (arith, nat_tests, long, kind)
no-header_fault text (UdtsValue return_cause parts) long kind = grind (arith, nat_tests, long, kind)

value-said : (text : List ℕ) (v : UnitdataValue) → slice_index text 0 ≡ kind_of v → slice_index text 1 ≡ second_of v → parts_in 2 text ≡ parts_of v → value_in text ≡ v
value-said text (UdtValue class_octet parts) kind second same = rw (eq-eqb (slice_index text 0) 9 kind) (ap (λ (n : ℕ). UdtValue n (parts_in 2 text)) second ∙ ap (UdtValue class_octet) same)
value-said text (UdtsValue return_cause parts) kind second same =
    rw (ne_eqb (slice_index text 0) 9 (λ udt. omega (arith, udt, kind))) (ap (λ (n : ℕ). UdtsValue n (parts_in 2 text)) second ∙ ap (UdtsValue return_cause) same)

-- the parts that the pointers from this octet on name
pub record ReadsParts (pointers start : ℕ) (text : List ℕ) (parts : PartsValue) : Type 0 where
  pub well : parts_fault pointers start text ≡ None
  pub same : parts_in pointers text ≡ parts

pub reads_parts : (pointers start : ℕ) (text : List ℕ) (parts : PartsValue) → HasAddress start text pointers parts.called → HasAddress start text (pointers + 1) parts.calling
    → IsPart start text (pointers + 2) parts.data → ReadsParts pointers start text parts
reads_parts pointers start text parts has_called has_calling has_data =
    let called = reads_part-is_part start text pointers has_called.octets has_called.part in
    let calling = reads_part-is_part start text (pointers + 1) has_calling.octets has_calling.part in
    let carried = reads_part-is_part start text (pointers + 2) parts.data has_data in
    let a = unless-ok (address_fault has_called.octets) (address_in has_called.octets) _ (read_address-is_address has_called.octets parts.called has_called.address) in
    let b = unless-ok (address_fault has_calling.octets) (address_in has_calling.octets) _ (read_address-is_address has_calling.octets parts.calling has_calling.address) in
    record {
      well = no-parts_fault pointers start text (record { called = called.well; calling = calling.well; carried = carried.well; called_address = rw called.same a.0; calling_address = rw calling.same b.0 });
      same = rw (called.same, calling.same, carried.same, a.1, b.1) refl;
    }

pub read_unitdata-is_unitdata : (text : List ℕ) (v : UnitdataValue) → IsUnitdata text v → read_unitdata text ≡ Ok v
read_unitdata-is_unitdata text v h =
    let parts = reads_parts 2 5 text (parts_of v) h.called h.calling h.carried in
    unless-none (fault_of text) (value_in text) v (none-first (header_fault 9 10 5 text) (parts_fault 2 5 text ∷ []) (no-header_fault text v h.long h.kind) (none-first (parts_fault 2 5 text) [] parts.well refl)) (value-said text v h.kind h.second parts.same)

-- ---- what is written

-- a part between what comes before it and what comes after it
pub between : (start : ℕ) (text front part behind : List ℕ) (pointer : ℕ) → text ≡ front ++ (counted part ++ behind) → length_place text pointer ≡ length front → start ≤ length front
    → IsPart start text pointer part
between start text front part behind pointer e place long = record {
  behind = rw place long;
  rest = behind;
  there = rw (place, e) (drop-append_seam front (counted part ++ behind));
}

pub spelled-address : (octets : List ℕ) (a : AddressValue) → IsAddressValue a → octets ≡ address_octets 0 a → IsAddress octets a
spelled-address octets a h e = record { spare = 0; spare_fits = omega arith; says = e; value = h }

laid_out-is_unitdata : (v : UnitdataValue) → IsUnitdataValue v → (called calling : List ℕ) → called ≡ address_octets 0 (parts_of v).called → calling ≡ address_octets 0 (parts_of v).calling
    → IsUnitdata ((kind_of v ∷ second_of v ∷ []) ++ laid_out called calling (parts_of v).data) v
laid_out-is_unitdata v h called calling c d =
    let text = (kind_of v ∷ second_of v ∷ []) ++ laid_out called calling (parts_of v).data in
    let head : List ℕ = kind_of v ∷ second_of v ∷ 3 ∷ (3 + length called) ∷ (3 + length called + length calling) ∷ [] in
    record {
      long = omega arith;
      kind = refl;
      second = refl;
      called = record {
        octets = called;
        part = between 5 text head called (counted calling ++ counted (parts_of v).data) 2 (grind (arith, append_assoc {A = ℕ})) refl (omega arith);
        address = spelled-address called (parts_of v).called h.called c;
      };
      calling = record {
        octets = calling;
        part = between 5 text (head ++ counted called) calling (counted (parts_of v).data) 3 (grind (arith, append_assoc {A = ℕ})) (omega (arith, length-append head (counted called))) (omega (arith, length-append head (counted called)));
        address = spelled-address calling (parts_of v).calling h.calling d;
      };
      carried = between 5 text (head ++ counted called ++ counted calling) (parts_of v).data [] 4 (grind (arith, append_assoc {A = ℕ}, append-nil {A = ℕ})) (omega (arith, length-append (head ++ counted called) (counted calling), length-append head (counted called))) (omega (arith, length-append (head ++ counted called) (counted calling), length-append head (counted called)));
    }

pub spelled-is_unitdata : (v : UnitdataValue) → IsUnitdataValue v → IsUnitdata (spelled v) v
spelled-is_unitdata v h = laid_out-is_unitdata v h (address_octets 0 (parts_of v).called) (address_octets 0 (parts_of v).calling) refl refl

pub read_unitdata-spelled : (v : UnitdataValue) → IsUnitdataValue v → read_unitdata (spelled v) ≡ Ok v
read_unitdata-spelled v h = read_unitdata-is_unitdata (spelled v) v (spelled-is_unitdata v h)

-- after a label
pub read_unitdata-field : (label : List ℕ) (v : UnitdataValue) → length label ≡ 4 → IsUnitdataValue v → read_unitdata (drop 4 (label ++ spelled v)) ≡ Ok v
read_unitdata-field label v four h =
    let behind : drop 4 (label ++ spelled v) ≡ spelled v = ap (λ (n : ℕ). drop n (label ++ spelled v)) (sym four) ∙ drop-append_seam label (spelled v) in
    ap read_unitdata behind ∙ read_unitdata-spelled v h

-- the same, of what the code answers
pub back-read : (label : List ℕ) (v : UnitdataValue) (result : Result ℕ Cause) (field : List ℕ) → length label ≡ 4
    → IfOk result (λ count. take count field ≡ label ++ spelled v) → OnOk result (IsUnitdataValue v)
    → IfOk result (λ count. read_unitdata (drop 4 (take count field)) ≡ Ok v)
back-read label v (Ok count) field four text h = rw text (read_unitdata-field label v four h)
back-read label v (Err cause) field four text h = tt

pub one-value : (text : List ℕ) (v w : UnitdataValue) → IsUnitdata text v → IsUnitdata text w → v ≡ w
one-value text v w h k = let a = read_unitdata-is_unitdata text v h in let b = read_unitdata-is_unitdata text w k in cc

-- ---- the same, of what the code answers

pub value-read : (text : List ℕ) (result : Result Unitdata SccpFault) → AreOctets text → Gives unitdata_of result (read_unitdata text)
    → IfOk result (λ message. IsUnitdata text (unitdata_of message))
value-read text (Ok message) fits e = is_unitdata-read text (unitdata_of message) fits e
value-read text (Err fault) fits e = tt

pub only-read : (text : List ℕ) (result : Result Unitdata SccpFault) → Gives unitdata_of result (read_unitdata text) → (v : UnitdataValue) → IsUnitdata text v
    → IsOkAnd result (λ message. unitdata_of message ≡ v)
only-read text (Ok message) e v h = let r = read_unitdata-is_unitdata text v h in cc
only-read text (Err fault) e v h = let r = read_unitdata-is_unitdata text v h in absurd cc

pub fault-read : (text : List ℕ) (result : Result Unitdata SccpFault) → Gives unitdata_of result (read_unitdata text) → IfErr result (λ fault. fault_of text ≡ Some fault)
fault-read text (Ok message) e = tt
fault-read text (Err fault) e = unless-err (fault_of text) (value_in text) fault e
