-- What goes on, as it is read where it arrives.
use Rattle.std.proofs.Common.{◌≡◌, ◌≢◌, ℕ, ◌-◌, ◌^◌, ◌<◌, ◌≤◌, ◌⊎◌, Bool, true, false, cond, List, drop, Option, Some, None, Result, Ok, Err, refl, sym, ap, subst, ◌∙◌, inl, inr, arith, not}
use Rattle.std.proofs.lemmas.Bool.{and_parts, cases_eq, eq-eqb, eqb-true, ne_eqb}
use Rattle.std.proofs.lemmas.Bool.Decides.{nat_tests}
use Rattle.std.specs.Prelude.{◌&&◌, if◌then◌else◌, nat_eq, nat_le}
use Rattle.signalling_types.specs.declared.cause.Cause.{Cause}
use Rattle.signalling_types.specs.declared.cause.Cause.TheVariants.{NotInProfile, HopCounter, Unequipped}
use Rattle.settings.specs.Configuration.{TitleEntry}
use Rattle.mtp3_codec.specs.declared.label.Label.{Label}
use Rattle.mtp3_codec.specs.Headings.{label_at}
use Rattle.sccp_codec.specs.declared.fault.SccpFault.{SccpFault}
use Rattle.sccp_codec.specs.declared.address.Routing.{Routing}
use Rattle.sccp_codec.specs.declared.address.Routing.TheVariants.{Title, Ssn}
use Rattle.sccp_codec.specs.declared.management.ManagementKind.{ManagementKind}
use Rattle.sccp_codec.specs.declared.management.ManagementKind.TheVariants.{SubsystemAllowed, SubsystemProhibited, SubsystemStatusTest}
use Rattle.sccp_codec.specs.Messages.{AddressValue, AreOctets, IsAddressValue, IsPartsValue, PartsValue, UdtValue, UdtsValue}
use Rattle.sccp_codec.specs.Management.{ManagementValue, read_management}
use Rattle.sccp_codec.proofs.ManagementTexts.{read_management-written}
use Rattle.sccp_relay.specs.Sccp.{SccpValue, Plain, Extended, sccp_parts, with_new_parts, read_sccp, is_connectionless, has_valid_hops, lowered, is_spent}
use Rattle.sccp_relay.specs.Points.{OwnValue, point_by, unless_barred}
use Rattle.sccp_relay.specs.Relay.{RelayedValue, Delivered, Onward, Refused, relay, relay_read, relay_by_routing, relay_by_row, row_of, ssn_by, translated, written, onward, led_on, lead_on, is_equipped, for_subsystem, news, heard_or, answered_or, answer, answer_to, allowed, is_answered, is_management, is_test, management_address}
use Rattle.sccp_relay.specs.Led.{IsLed, IsLedTo, IsSeenFrom, IsLowered, GoesOn, IsForManagement, IsTestAnswer, AreInRange, type_octet, second_octet, hops_of, optional_of, what_goes_on_reads_back}
use Rattle.sccp_relay.specs.Statuses.{TitlesValue}
use Rattle.sccp_relay.specs.Ways.{IsRow}
use Rattle.sccp_relay.specs.declared.subsystem.SubsystemNews.{SubsystemNews}
use Rattle.sccp_relay.proofs.LedAddresses.{translated-led, seen_from-of, translated-fits, cond-fits, title-row, label-fits}
use Rattle.sccp_relay.proofs.RowPoints.{led-to, open-found, point-fits}
use Rattle.sccp_relay.proofs.ReadTitles.{octets-dropped}
use Rattle.sccp_relay.proofs.SaidMessages.{IsSccpValue, IsReadHere, HasOctetTitles, fits-read, titles-read, here-read, plain-read, written-reads, sent}

-- ---- to a row's point

pub record Leads (own : OwnValue) (titles : TitlesValue) (label : Label) (came : SccpValue) (field : List ℕ) : Type 0 where
  pub row : TitleEntry
  pub finds : row_of titles.rows (sccp_parts came).called ≡ Ok row
  pub elsewhere : point_by own titles.prohibited (Some label.opc) label.sls row ≢ own.point
  pub left : is_spent (lowered came) ≡ false
  pub called : AddressValue
  pub leads_on : translated row (sccp_parts came).called ≡ Ok called
  pub writes : written (point_by own titles.prohibited (Some label.opc) label.sls row) own.point label (with_new_parts (lowered came) (led_on called label.opc (sccp_parts came))) ≡ Some field

-- ---- as an answer

pub record Answers (own : OwnValue) (label : Label) (ssn : Option ℕ) (came : SccpValue) (field : List ℕ) : Type 0 where
  pub class_octet : ℕ
  pub parts : PartsValue
  pub plain : came ≡ Plain (UdtValue class_octet parts)
  pub tested : own.answers_tests ≡ true
  pub number : ssn ≡ Some 1
  pub test : ManagementValue
  pub says : read_management parts.data ≡ Ok test
  pub answered : is_answered own label.opc test ≡ true
  pub writes : written label.opc own.point label (allowed test) ≡ Some field

pub record Answered (own : OwnValue) (titles : TitlesValue) (label : Label) (came : SccpValue) (field : List ℕ) : Type 0 where
  pub ssn : Option ℕ
  pub for_management : IsForManagement own titles label (sccp_parts came).called
  pub answers : Answers own label ssn came field

not-onward : (b : Bool) (cause : Cause) (field : List ℕ) → cond b Delivered (Refused cause) ≢ Onward field
not-onward true cause field e = absurd cc
not-onward false cause field e = absurd cc

answered-some : (answer : Option (List ℕ)) (b : Bool) (field : List ℕ) → answered_or answer (cond b Delivered (Refused Unequipped)) ≡ Onward field → answer ≡ Some field
answered-some (Some sif) b field e = let same : sif ≡ field = cc in ap Some same
answered-some None b field e = absurd (not-onward b Unequipped field e)

pub in-case : (b : Bool) (text : Option (List ℕ)) (field : List ℕ) → cond b text None ≡ Some field → (b ≡ true) × (text ≡ Some field)
in-case true text field e = (refl, e)
in-case false text field e = absurd cc

management-number : (ssn : Option ℕ) → is_management ssn ≡ true → ssn ≡ Some 1
management-number None e = absurd cc
management-number (Some ssn) e = ap Some (eqb-true ssn 1 e)

record IsAnswer (own : OwnValue) (label : Label) (read : Result ManagementValue SccpFault) (field : List ℕ) : Type 0 where
  pub test : ManagementValue
  pub says : read ≡ Ok test
  pub answered : is_answered own label.opc test ≡ true
  pub writes : written label.opc own.point label (allowed test) ≡ Some field

is-answer : (own : OwnValue) (label : Label) (read : Result ManagementValue SccpFault) (field : List ℕ) → answer_to own label read ≡ Some field → IsAnswer own label read field
is-answer own label (Err fault) field e = absurd cc
is-answer own label (Ok test) field e =
    let r = in-case (is_answered own label.opc test) (written label.opc own.point label (allowed test)) field e in
    record { test = test; says = refl; answered = r.0; writes = r.1 }

answer-answers : (own : OwnValue) (label : Label) (ssn : Option ℕ) (came : SccpValue) (field : List ℕ) → answer own label came ssn ≡ Some field → Answers own label ssn came field
answer-answers own label ssn (Plain (UdtsValue number parts)) field e = absurd cc
answer-answers own label ssn (Extended v) field e = absurd cc
answer-answers own label ssn (Plain (UdtValue class_octet parts)) field e =
    let r = in-case (own.answers_tests && is_management ssn) (answer_to own label (read_management parts.data)) field e in
    let a = is-answer own label (read_management parts.data) field r.1 in
    record {
      class_octet = class_octet;
      parts = parts;
      plain = refl;
      tested = (and_parts own.answers_tests (is_management ssn) r.0).0;
      number = management-number ssn (and_parts own.answers_tests (is_management ssn) r.0).1;
      test = a.test;
      says = a.says;
      answered = a.answered;
      writes = a.writes;
    }

subsystem-answers : (own : OwnValue) (label : Label) (ssn : Option ℕ) (came : SccpValue) (field : List ℕ) → for_subsystem own label came ssn ≡ Onward field → Answers own label ssn came field
subsystem-answers own label ssn came field e = answer-answers own label ssn came field (answered-some (answer own label came ssn) (is_equipped own ssn) field e)

-- ---- either

not-heard : (news : Option SubsystemNews) (other : RelayedValue) (field : List ℕ) → heard_or news other ≡ Onward field → other ≡ Onward field
not-heard None other field e = e
not-heard (Some news) other field e = absurd cc

onward-some : (text : Option (List ℕ)) (field : List ℕ) → onward text ≡ Onward field → text ≡ Some field
onward-some None field e = absurd cc
onward-some (Some text) field e = let same : text ≡ field = cc in ap Some same

record IsLedOn (own : OwnValue) (label : Label) (came : SccpValue) (point : ℕ) (to : Result AddressValue Cause) (field : List ℕ) : Type 0 where
  pub called : AddressValue
  pub is : to ≡ Ok called
  pub writes : written point own.point label (with_new_parts (lowered came) (led_on called label.opc (sccp_parts came))) ≡ Some field

is-led_on : (own : OwnValue) (label : Label) (came : SccpValue) (point : ℕ) (to : Result AddressValue Cause) (field : List ℕ) → lead_on own label came point to ≡ Onward field
    → IsLedOn own label came point to field
is-led_on own label came point (Err cause) field e = absurd cc
is-led_on own label came point (Ok called) field e = record { called = called; is = refl; writes = onward-some _ field e }

module _ (own : OwnValue) (titles : TitlesValue) (label : Label) (came : SccpValue) (field : List ℕ) where
  row-leads : (found : Result TitleEntry Cause) → (sccp_parts came).called.routing ≡ Title → is_spent (lowered came) ≡ false
      → unless_barred own titles.prohibited (Some label.opc) label.sls (row_of titles.rows (sccp_parts came).called) ≡ found
      → relay_by_row own titles.prohibited label came found ≡ Onward field → Leads own titles label came field ⊎ Answered own titles label came field
  row-leads (Err cause) t left f e = absurd cc
  row-leads (Ok row) t left f e =
      let f = open-found own titles.prohibited (Some label.opc) label.sls (row_of titles.rows (sccp_parts came).called) row f in
      let point = point_by own titles.prohibited (Some label.opc) label.sls row in
      elim (cases_eq point own.point) [
        | inl same ↦
            let a = subsystem-answers own label (ssn_by row.route (sccp_parts came).called.ssn) came field (rw (eq-eqb point own.point same) at e) in
            inr (record {
              ssn = ssn_by row.route (sccp_parts came).called.ssn;
              for_management = record { by_number = λ s. absurd (let no = t in cc); by_title = λ s. (row, f, subst (IsLedTo own titles.prohibited (Some label.opc) label.sls row) same (led-to own titles.prohibited (Some label.opc) label.sls row), a.number) };
              answers = a;
            })
        | inr other ↦
            let l = is-led_on own label came point (translated row (sccp_parts came).called) field (rw (ne_eqb point own.point other) at e) in
            inl (record { row = row; finds = f; elsewhere = other; left = left; called = l.called; leads_on = l.is; writes = l.writes })
      ]

  title-leads : (spent : Bool) → is_spent (lowered came) ≡ spent → (sccp_parts came).called.routing ≡ Title
      → (if spent then Refused HopCounter else relay_by_row own titles.prohibited label came (unless_barred own titles.prohibited (Some label.opc) label.sls (row_of titles.rows (sccp_parts came).called))) ≡ Onward field → Leads own titles label came field ⊎ Answered own titles label came field
  title-leads true left t e = absurd cc
  title-leads false left t e = row-leads (unless_barred own titles.prohibited (Some label.opc) label.sls (row_of titles.rows (sccp_parts came).called)) t left refl e

  routing-leads : (routing : Routing) → (sccp_parts came).called.routing ≡ routing → relay_by_routing routing own titles label came ≡ Onward field
      → Leads own titles label came field ⊎ Answered own titles label came field
  routing-leads Title t e = title-leads (is_spent (lowered came)) refl t e
  routing-leads Ssn t e =
      let a = subsystem-answers own label (sccp_parts came).called.ssn came field (not-heard (news own label.opc came (sccp_parts came).called.ssn) _ field e) in
      inr (record {
        ssn = (sccp_parts came).called.ssn;
        for_management = record { by_number = λ s. a.number; by_title = λ s. absurd (let no = t in cc) };
        answers = a;
      })

pub record ReadsAndLeads (own : OwnValue) (titles : TitlesValue) (label : Label) (read : Result SccpValue SccpFault) (field : List ℕ) : Type 0 where
  pub came : SccpValue
  pub reads : read ≡ Ok came
  pub hops : has_valid_hops came ≡ true
  pub leads : Leads own titles label came field ⊎ Answered own titles label came field

past-tests : (a b : Bool) (r : RelayedValue) (field : List ℕ) → (if not a then Refused NotInProfile else if not b then Refused HopCounter else r) ≡ Onward field → (b ≡ true) × (r ≡ Onward field)
past-tests true true r field e = (refl, e)
past-tests true false r field e = absurd cc
past-tests false b r field e = absurd cc

pub read-leads : (own : OwnValue) (titles : TitlesValue) (label : Label) (read : Result SccpValue SccpFault) (field : List ℕ) → relay_read own titles label read ≡ Onward field
    → ReadsAndLeads own titles label read field
read-leads own titles label (Err fault) field e = absurd cc
read-leads own titles label (Ok came) field e =
    let r = past-tests (is_connectionless came) (has_valid_hops came) _ field e in
    record { came = came; reads = refl; hops = r.0; leads = routing-leads own titles label came field (sccp_parts came).called.routing refl r.1 }

-- ---- the message with other parts, after a translation

record Kept (came : SccpValue) (parts : PartsValue) : Type 0 where
  pub type : type_octet (with_new_parts (lowered came) parts) ≡ type_octet came
  pub second : second_octet (with_new_parts (lowered came) parts) ≡ second_octet came
  pub same : sccp_parts (with_new_parts (lowered came) parts) ≡ parts
  pub optional : optional_of (with_new_parts (lowered came) parts) ≡ optional_of came

kept : (came : SccpValue) (parts : PartsValue) → Kept came parts
kept (Plain (UdtValue class_octet old)) parts = record { type = refl; second = refl; same = refl; optional = refl }
kept (Plain (UdtsValue number old)) parts = record { type = refl; second = refl; same = refl; optional = refl }
kept (Extended v) parts = record { type = refl; second = refl; same = refl; optional = refl }

pub hops-left : (hops : ℕ) → (nat_le 1 hops && nat_le hops 15) ≡ true → nat_eq (hops - 1) 0 ≡ false → (2 ≤ hops) × (hops ≤ 15)
hops-left hops h f = (grind (arith, nat_tests, h, f), grind (arith, nat_tests, h, f))

is-lowered : (came : SccpValue) (parts : PartsValue) → has_valid_hops came ≡ true → is_spent (lowered came) ≡ false → IsLowered (hops_of came) (hops_of (with_new_parts (lowered came) parts))
is-lowered (Plain (UdtValue class_octet old)) parts h f = refl
is-lowered (Plain (UdtsValue number old)) parts h f = refl
is-lowered (Extended v) parts h f = let l = hops-left v.hop_counter h f in (l.0, l.1, refl)

new-here : (extended : Bool) (came : SccpValue) (parts : PartsValue) → IsReadHere extended came → IsReadHere extended (with_new_parts (lowered came) parts)
new-here extended (Plain (UdtValue class_octet old)) parts r = tt
new-here extended (Plain (UdtsValue number old)) parts r = tt
new-here extended (Extended v) parts r = r

new-fits : (came : SccpValue) (parts : PartsValue) → IsSccpValue came → IsPartsValue parts → IsSccpValue (with_new_parts (lowered came) parts)
new-fits (Plain (UdtValue class_octet old)) parts h p = p
new-fits (Plain (UdtsValue number old)) parts h p = p
new-fits (Extended v) parts h p = record { parts = p; optional = h.optional }

pub parts-fit : (m : SccpValue) → IsSccpValue m → IsPartsValue (sccp_parts m)
parts-fit (Plain u) h = h
parts-fit (Extended v) h = h.parts

led-fits : (row : TitleEntry) (called : AddressValue) (sender : ℕ) (parts : PartsValue) → IsRow row → sender < 2 ^ 14 → IsPartsValue parts → translated row parts.called ≡ Ok called
    → IsPartsValue (led_on called sender parts)
led-fits row called sender parts r s h e =
    record { called = translated-fits row parts.called called r h.called e; calling = cond-fits _ sender parts.calling s h.calling }

-- ---- what goes on

module _ (own : OwnValue) (titles : TitlesValue) (sif field : List ℕ) (range : AreInRange own titles) (came : SccpValue) where
  goes-on : read_sccp own.extended (drop 4 sif) ≡ Ok came → IsSccpValue came → HasOctetTitles came → has_valid_hops came ≡ true → Leads own titles (label_at sif) came field → GoesOn own titles sif field
  goes-on reads fits octets hops l =
      let parts = led_on l.called (label_at sif).opc (sccp_parts came) in
      let goes = with_new_parts (lowered came) parts in
      let row = title-row titles.rows _ l.row range.each l.finds in
      let k = kept came parts in
      let there = led-fits l.row l.called (label_at sif).opc (sccp_parts came) row (label-fits sif).opc (parts-fit came fits) l.leads_on in
      let point = point_by own titles.prohibited (Some (label_at sif).opc) (label_at sif).sls l.row in
      let w = written-reads own.extended point own.point (label_at sif) goes field (point-fits own titles.prohibited (Some (label_at sif).opc) (label_at sif).sls l.row row) range.point (label-fits sif)
      (new-here own.extended came parts (here-read own.extended (drop 4 sif) came reads)) (new-fits came parts fits there) l.writes in
      record {
        came = came;
        reads = reads;
        row = l.row;
        finds = l.finds;
        label = sent own point goes sif field l.elsewhere w;
        to_row = subst (IsLedTo own titles.prohibited (Some (label_at sif).opc) (label_at sif).sls l.row) (sym (ap (λ (label : Label). label.dpc) w.labelled)) (led-to own titles.prohibited (Some (label_at sif).opc) (label_at sif).sls l.row);
        goes = goes;
        reads_back = w.back;
        type = k.type;
        second = k.second;
        hops = is-lowered came parts hops l.left;
        called = subst (λ (p : PartsValue). IsLed l.row (sccp_parts came).called p.called) (sym k.same) (translated-led l.row (sccp_parts came).called l.called row octets.called l.leads_on);
        calling = subst (λ (p : PartsValue). IsSeenFrom (label_at sif).opc (sccp_parts came).calling p.calling) (sym k.same) (seen_from-of (label_at sif).opc (sccp_parts came).calling);
        carried = ap (λ (p : PartsValue). p.data) k.same;
        optional = k.optional;
      }

-- ---- what is answered

record IsTested (own : OwnValue) (sender : ℕ) (test : ManagementValue) : Type 0 where
  pub kind : test.kind ≡ SubsystemStatusTest
  pub point : test.point ≡ own.point
  pub here : is_equipped own (Some test.ssn) ≡ true
  pub elsewhere : sender ≢ own.point

all-four : (a b c d : Bool) → (a && b && c && d) ≡ true → (a ≡ true) × (b ≡ true) × (c ≡ true) × (d ≡ true)
all-four true true true d e = (refl, refl, refl, e)
all-four true true false d e = absurd cc
all-four true false c d e = absurd cc
all-four false b c d e = absurd cc

test-kind : (kind : ManagementKind) → is_test kind ≡ true → kind ≡ SubsystemStatusTest
test-kind SubsystemAllowed e = absurd cc
test-kind SubsystemProhibited e = absurd cc
test-kind SubsystemStatusTest e = refl

not-equal : (a b : ℕ) → not (nat_eq a b) ≡ true → a ≢ b
not-equal a b e same = absurd (let yes = eq-eqb a b same in let no : not true ≡ true = ap not (sym yes) ∙ e in cc)

is-tested : (own : OwnValue) (sender : ℕ) (test : ManagementValue) → is_answered own sender test ≡ true → IsTested own sender test
is-tested own sender test e =
    let r = all-four (is_test test.kind) (nat_eq test.point own.point) (is_equipped own (Some test.ssn)) (not (nat_eq sender own.point)) e in
    record { kind = test-kind test.kind r.0; point = eqb-true test.point own.point r.1; here = r.2; elsewhere = not-equal sender own.point r.3 }

management-fits : IsAddressValue management_address
management-fits = record { title_indicator = omega arith; point = tt; ssn = omega arith }

is-test_answer : (own : OwnValue) (titles : TitlesValue) (sif field : List ℕ) → own.point < 2 ^ 14 → (came : SccpValue) → read_sccp own.extended (drop 4 sif) ≡ Ok came
    → Answered own titles (label_at sif) came field → IsTestAnswer own titles sif field
is-test_answer own titles sif field range came reads answered =
    let a = answered.answers in
    let t = is-tested own (label_at sif).opc a.test a.answered in
    let w = written-reads own.extended (label_at sif).opc own.point (label_at sif) (allowed a.test) field (label-fits sif).opc range (label-fits sif) tt
    (record { called = management-fits; calling = management-fits }) a.writes in
    record {
      answers = a.tested;
      class_octet = a.class_octet;
      came = a.parts;
      reads = plain-read own.extended (drop 4 sif) (UdtValue a.class_octet a.parts) (reads ∙ ap Ok a.plain);
      for_management = subst (λ (m : SccpValue). IsForManagement own titles (label_at sif) (sccp_parts m).called) a.plain answered.for_management;
      test = a.test;
      says = a.says;
      kind = t.kind;
      point = t.point;
      here = t.here;
      label = sent own (label_at sif).opc (allowed a.test) sif field t.elsewhere w;
      to_sender = ap (λ (label : Label). label.dpc) w.labelled;
      goes = sccp_parts (allowed a.test);
      reads_back = plain-read own.extended (drop 4 field) (UdtValue 0 (sccp_parts (allowed a.test))) w.back;
      called = refl;
      calling = refl;
      answer = read_management-written (record a.test { kind = SubsystemAllowed; multiplicity = 0 }) (rw t.point range);
    }

reads-back : (own : OwnValue) (titles : TitlesValue) (sif field : List ℕ) → AreInRange own titles → AreOctets (drop 4 sif) → (came : SccpValue) → read_sccp own.extended (drop 4 sif) ≡ Ok came → has_valid_hops came ≡ true
    → Leads own titles (label_at sif) came field ⊎ Answered own titles (label_at sif) came field → GoesOn own titles sif field ⊎ IsTestAnswer own titles sif field
reads-back own titles sif field range octets came reads hops (inl leads) = inl (goes-on own titles sif field range came reads (fits-read own.extended (drop 4 sif) came octets reads) (titles-read own.extended (drop 4 sif) came octets reads) hops leads)
reads-back own titles sif field range octets came reads hops (inr answered) = inr (is-test_answer own titles sif field range.point came reads answered)

pub goes_on-onward : what_goes_on_reads_back
unfolding relay
goes_on-onward own titles sif field range octets e =
    let r = read-leads own titles (label_at sif) (read_sccp own.extended (drop 4 sif)) field e in
    reads-back own titles sif field range (octets-dropped 4 sif octets) r.came r.reads r.hops r.leads
