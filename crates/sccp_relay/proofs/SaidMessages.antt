-- What a message says is in its ranges, and reads back where it is written.
use Rattle.std.proofs.Common.{◌≡◌, ◌≢◌, ℕ, ◌+◌, ◌^◌, ◌<◌, Bool, true, false, cond, List, ◌++◌, drop, Some, None, Result, Ok, Err, refl, sym, ap, subst, ◌∙◌, inl, inr}
use Rattle.std.proofs.lemmas.Bool.{and_parts}
use Rattle.std.specs.List.{list_all}
use Rattle.std.specs.Prelude.{⊤, slice_index, ◌==◌, ◌&&◌, ◌||◌, if◌then◌else◌}
use Rattle.mtp3_codec.specs.declared.label.Label.{Label}
use Rattle.mtp3_codec.specs.Headings.{IsLabel, label_at, label_octets}
use Rattle.mtp3_codec.proofs.Labels.{label-back}
use Rattle.sccp_codec.specs.declared.fault.SccpFault.{SccpFault}
use Rattle.sccp_codec.specs.declared.extended.ExtendedKind.{ExtendedKind}
use Rattle.sccp_codec.specs.declared.extended.ExtendedKind.TheVariants.{Xudt, Xudts}
use Rattle.sccp_codec.specs.Messages.{AreOctets, UnitdataValue, UdtValue, UdtsValue, IsUnitdataValue, PartsValue, parts_of, address_in, part_at, parts_in, fault_of, value_in, read_unitdata}
use Rattle.sccp_codec.specs.Extended.{ExtendedValue, ParameterValue, IsExtendedValue, HasOptional, is_parameter, type_of, extended_octets, extended_fault, extended_in, read_extended}
use Rattle.sccp_codec.proofs.AddressTexts.{unless-ok}
use Rattle.sccp_relay.proofs.ReadTitles.{octets-taken, octets-dropped}
use Rattle.sccp_codec.proofs.MessageTexts.{is_unitdata-read, read_unitdata-spelled}
use Rattle.sccp_codec.proofs.ExtendedTexts.{is_extended-read, read_extended-written}
use Rattle.sccp_relay.specs.Sccp.{SccpValue, Plain, Extended, sccp_parts, as_plain, as_extended, is_extended, read_sccp, sccp_octets, is_sccp_writable}
use Rattle.sccp_relay.specs.Points.{OwnValue}
use Rattle.sccp_relay.specs.Relay.{label_to, written}
use Rattle.sccp_relay.specs.Led.{IsSent}

-- ---- how a message was read

plain-either : (b : Bool) (v : Result ExtendedValue SccpFault) (r : Result UnitdataValue SccpFault) (u : UnitdataValue)
    → (if b then as_extended v else as_plain r) ≡ Ok (Plain u) → r ≡ Ok u
plain-either true (Ok v) r u e = absurd cc
plain-either true (Err fault) r u e = absurd cc
plain-either false v (Ok w) u e = let same : w ≡ u = cc in ap Ok same
plain-either false v (Err fault) u e = absurd cc

pub plain-read : (extended : Bool) (text : List ℕ) (u : UnitdataValue) → read_sccp extended text ≡ Ok (Plain u) → read_unitdata text ≡ Ok u
plain-read extended text u e = plain-either (extended && is_extended text) (read_extended text) (read_unitdata text) u e

extended-either : (b : Bool) (v : Result ExtendedValue SccpFault) (r : Result UnitdataValue SccpFault) (w : ExtendedValue)
    → (if b then as_extended v else as_plain r) ≡ Ok (Extended w) → (b ≡ true) × (v ≡ Ok w)
extended-either true (Ok v) r w e = let same : v ≡ w = cc in (refl, ap Ok same)
extended-either true (Err fault) r w e = absurd cc
extended-either false v (Ok u) w e = absurd cc
extended-either false v (Err fault) w e = absurd cc

pub record ReadsExtended (extended : Bool) (text : List ℕ) (v : ExtendedValue) : Type 0 where
  pub relayed : extended ≡ true
  pub type : is_extended text ≡ true
  pub read : read_extended text ≡ Ok v

pub extended-read : (extended : Bool) (text : List ℕ) (v : ExtendedValue) → read_sccp extended text ≡ Ok (Extended v) → ReadsExtended extended text v
extended-read extended text v e =
    let r = extended-either (extended && is_extended text) (read_extended text) (read_unitdata text) v e in
    record { relayed = (and_parts extended (is_extended text) r.0).0; type = (and_parts extended (is_extended text) r.0).1; read = r.1 }

-- ---- in its ranges

abbrev pub IsSccpValue : SccpValue → Type 0
IsSccpValue (Plain unitdata) = IsUnitdataValue unitdata
IsSccpValue (Extended extended) = IsExtendedValue extended

-- extended messages are read where they are relayed
abbrev pub IsReadHere : Bool → SccpValue → Type 0
IsReadHere extended (Plain unitdata) = ⊤
IsReadHere extended (Extended v) = extended ≡ true

legal-optional : (text : List ℕ) (ps : List ParameterValue) → HasOptional text 6 ps → list_all is_parameter ps ≡ true
legal-optional text ps (inl h) = rw h.1 refl
legal-optional text ps (inr h) = h.1.legal

pub fits-read : (extended : Bool) (text : List ℕ) (m : SccpValue) → AreOctets text → read_sccp extended text ≡ Ok m → IsSccpValue m
fits-read extended text (Plain u) octets e =
    let came = is_unitdata-read text u octets (plain-read extended text u e) in
    record { called = came.called.address.value; calling = came.calling.address.value }
fits-read extended text (Extended v) octets e =
    let came = is_extended-read text v octets (extended-read extended text v e).read in
    record { parts = record { called = came.called.address.value; calling = came.calling.address.value }; optional = legal-optional text v.optional came.optional }

-- the titles of its addresses are octets
pub record HasOctetTitles (m : SccpValue) : Type 0 where
  pub called : AreOctets (sccp_parts m).called.title
  pub calling : AreOctets (sccp_parts m).calling.title

value-parts : (b : Bool) (second : ℕ) (parts : PartsValue) → parts_of (if b then UdtValue second parts else UdtsValue second parts) ≡ parts
value-parts true second parts = refl
value-parts false second parts = refl

part-title : (text : List ℕ) (pointer : ℕ) → AreOctets text → AreOctets (address_in (part_at text pointer)).title
part-title text pointer h = octets-dropped _ (part_at text pointer) (octets-taken _ (drop _ text) (octets-dropped _ text h))

parts-titles : (text : List ℕ) (pointers : ℕ) (m : SccpValue) → AreOctets text → parts_in pointers text ≡ sccp_parts m → HasOctetTitles m
parts-titles text pointers m h e = record {
  called = subst (λ (p : PartsValue). AreOctets p.called.title) e (part-title text pointers h);
  calling = subst (λ (p : PartsValue). AreOctets p.calling.title) e (part-title text (pointers + 1) h);
}

pub titles-read : (extended : Bool) (text : List ℕ) (m : SccpValue) → AreOctets text → read_sccp extended text ≡ Ok m → HasOctetTitles m
titles-read extended text (Plain u) h e =
    parts-titles text 2 (Plain u) h
    (sym (value-parts (slice_index text 0 == 9) (slice_index text 1) (parts_in 2 text)) ∙ ap parts_of (unless-ok (fault_of text) (value_in text) u (plain-read extended text u e)).1)
titles-read extended text (Extended v) h e =
    parts-titles text 3 (Extended v) h (ap (λ (w : ExtendedValue). w.parts) (unless-ok (extended_fault text) (extended_in text) v (extended-read extended text v e).read).1)

pub here-read : (extended : Bool) (text : List ℕ) (m : SccpValue) → read_sccp extended text ≡ Ok m → IsReadHere extended m
here-read extended text (Plain u) e = tt
here-read extended text (Extended v) e = (extended-read extended text v e).relayed

-- ---- what was written is read

pub is-type : (kind : ExtendedKind) → (type_of kind == 17 || type_of kind == 18) ≡ true
is-type (Xudt class_octet) = refl
is-type (Xudts return_cause) = refl

pub octets-back : (extended : Bool) (m : SccpValue) → IsReadHere extended m → IsSccpValue m → read_sccp extended (sccp_octets m) ≡ Ok m
octets-back false (Plain u) r h = ap as_plain (read_unitdata-spelled u h)
octets-back true (Plain (UdtValue class_octet parts)) r h = ap as_plain (read_unitdata-spelled (UdtValue class_octet parts) h)
octets-back true (Plain (UdtsValue return_cause parts)) r h = ap as_plain (read_unitdata-spelled (UdtsValue return_cause parts) h)
octets-back false (Extended v) r h = absurd cc
octets-back true (Extended v) r h =
    ap (λ (b : Bool). if b then as_extended (read_extended (extended_octets v)) else as_plain (read_unitdata (extended_octets v))) (is-type v.kind)
    ∙ ap as_extended (read_extended-written v h)

pub record Reads (extended : Bool) (point own : ℕ) (label : Label) (m : SccpValue) (field : List ℕ) : Type 0 where
  pub back : read_sccp extended (drop 4 field) ≡ Ok m
  pub labelled : label_at field ≡ label_to point own label

if-some : (b : Bool) (text field : List ℕ) → cond b (Some text) None ≡ Some field → text ≡ field
if-some true text field e = cc
if-some false text field e = absurd cc

pub written-text : (point own : ℕ) (label : Label) (m : SccpValue) (field : List ℕ) → written point own label m ≡ Some field → label_octets (label_to point own label) ++ sccp_octets m ≡ field
written-text point own label m field e = if-some (is_sccp_writable m) _ field e

pub written-reads : (extended : Bool) (point own : ℕ) (label : Label) (m : SccpValue) (field : List ℕ) → point < 2 ^ 14 → own < 2 ^ 14 → IsLabel label → IsReadHere extended m → IsSccpValue m
    → written point own label m ≡ Some field → Reads extended point own label m field
written-reads extended point own label m field p o l r h e =
    let is : IsLabel (label_to point own label) = record { dpc = p; opc = o; sls = l.sls } in
    subst (Reads extended point own label m) (written-text point own label m field e) (record {
      back = octets-back extended m r h;
      labelled = label-back (label_to point own label) (sccp_octets m) is;
    })

pub sent : (own : OwnValue) (point : ℕ) (m : SccpValue) (sif field : List ℕ) → point ≢ own.point → Reads own.extended point own.point (label_at sif) m field → IsSent own sif field
sent own point m sif field other r = record {
  elsewhere = λ e. other (sym (ap (λ (label : Label). label.dpc) r.labelled) ∙ e);
  origin = ap (λ (label : Label). label.opc) r.labelled;
  selection = ap (λ (label : Label). label.sls) r.labelled;
}
