-- What is returned, as it is read where it arrives.
use Rattle.std.proofs.Common.{◌∙◌, ◌≡◌, ◌≢◌, ℕ, ◌+◌, ◌/◌, ◌^◌, ◌<◌, ◌⊎◌, Bool, true, false, cond, List, ◌++◌, length, drop, Option, Some, None, Result, Ok, Err, refl, sym, ap, subst, inl, inr}
use Rattle.std.proofs.lemmas.Bool.{eq-eqb, eqb-true}
use Rattle.std.specs.List.{list_all}
use Rattle.std.specs.Prelude.{All, IfSome, nat_eq, unwrap_or}
use Rattle.signalling_types.specs.declared.cause.Cause.{Cause}
use Rattle.settings.specs.Configuration.{TitleEntry}
use Rattle.mtp3_codec.specs.declared.label.Label.{Label}
use Rattle.mtp3_codec.specs.Headings.{label_at}
use Rattle.sccp_codec.specs.declared.fault.SccpFault.{SccpFault}
use Rattle.sccp_codec.specs.declared.address.Routing.{Routing}
use Rattle.sccp_codec.specs.declared.address.Routing.TheVariants.{Title, Ssn}
use Rattle.sccp_codec.specs.declared.extended.ExtendedKind.{ExtendedKind}
use Rattle.sccp_codec.specs.declared.extended.ExtendedKind.TheVariants.{Xudt, Xudts}
use Rattle.sccp_codec.specs.Messages.{AddressValue, AreOctets, PartsValue, UdtValue, UdtsValue, IsPartsValue}
use Rattle.sccp_codec.specs.Extended.{first_named, has_its_length, is_parameter, type_of, after_type}
use Rattle.sccp_codec.specs.Titles.{read_title}
use Rattle.sccp_relay.specs.Sccp.{SccpValue, Plain, Extended, sccp_parts, read_sccp, asks_for_return, is_kind_returned}
use Rattle.sccp_relay.specs.Points.{OwnValue, point_by, unless_barred}
use Rattle.sccp_relay.specs.Statuses.{TitlesValue}
use Rattle.sccp_relay.specs.declared.subsystem.ProhibitedSubsystem.{ProhibitedSubsystem}
use Rattle.sccp_relay.specs.Relay.{row_of, written, translated}
use Rattle.sccp_relay.specs.Returning.{is_kept_off, return_by_number, return_cause, parameter_of, returned_parameters, service, return_to, return_by, return_led, return_by_row, return_read, returned, sent_back, led_back}
use Rattle.sccp_relay.specs.Led.{GoesBack, IsReturned, AreInRange, type_octet, second_octet, hops_of, optional_of, a_udts_returns_a_udt}
use Rattle.sccp_relay.specs.Ways.{IsRow}
use Rattle.sccp_relay.proofs.KeptParameters.{named-length}
use Rattle.sccp_relay.proofs.LedAddresses.{translated-led, translated-fits, title-row, label-fits}
use Rattle.sccp_relay.proofs.SaidMessages.{IsSccpValue, IsReadHere, HasOctetTitles, fits-read, titles-read, here-read, written-reads, sent}
use Rattle.sccp_relay.proofs.RowPoints.{led-to, open-found, point-fits}
use Rattle.sccp_relay.proofs.ReadTitles.{octets-dropped}
use Rattle.sccp_relay.proofs.GoingOn.{in-case, parts-fit}

-- ---- where it goes

record Returns (own : OwnValue) (titles : TitlesValue) (label : Label) (number : ℕ) (came : SccpValue) (field : List ℕ) : Type 0 where
  pub point : ℕ
  pub point_fits : point < 2 ^ 14
  pub elsewhere : point ≢ own.point
  pub goes : PartsValue
  pub fits : IsPartsValue goes
  pub writes : written point own.point label (service number came goes) ≡ Some field
  pub calling : goes.calling ≡ (sccp_parts came).called
  pub back : GoesBack own titles label (sccp_parts came).calling point goes.called
  pub carried : goes.data ≡ (sccp_parts came).data

otherwise : (b : Bool) (text : Option (List ℕ)) (field : List ℕ) → cond b None text ≡ Some field → (b ≡ false) × (text ≡ Some field)
otherwise true text field e = absurd cc
otherwise false text field e = (refl, e)

pub record IsWritten (own : ℕ) (label : Label) (point : ℕ) (message : SccpValue) (field : List ℕ) : Type 0 where
  pub elsewhere : point ≢ own
  pub writes : written point own label message ≡ Some field

pub goes-back : (own : ℕ) (label : Label) (point : ℕ) (message : SccpValue) (field : List ℕ) → return_to own label point message ≡ Some field → IsWritten own label point message field
goes-back own label point message field e =
    let r = otherwise (nat_eq point own) (written point own label message) field e in
    record { elsewhere = λ same. absurd (let yes = eq-eqb point own same in let no = r.0 in cc); writes = r.1 }

-- by subsystem number it isn't prohibited there
pub number-returns : (own : ℕ) (prohibited : List ProhibitedSubsystem) (label : Label) (number : ℕ) (came : SccpValue) (point : ℕ) (field : List ℕ)
    → return_by_number own prohibited label number came point ≡ Some field
    → (is_kept_off prohibited point (sccp_parts came).calling.ssn ≡ false) × (return_to own label point (service number came (sent_back (sccp_parts came))) ≡ Some field)
number-returns own prohibited label number came point field e =
    otherwise (is_kept_off prohibited point (sccp_parts came).calling.ssn) (return_to own label point (service number came (sent_back (sccp_parts came)))) field e

or-fits : (point : Option ℕ) (other : ℕ) → IfSome point (λ p. p < 2 ^ 14) → other < 2 ^ 14 → unwrap_or point other < 2 ^ 14
or-fits None other h k = k
or-fits (Some point) other h k = h

pub record IsLedBack (own : OwnValue) (label : Label) (number : ℕ) (came : SccpValue) (point : ℕ) (to : Result AddressValue Cause) (field : List ℕ) : Type 0 where
  pub called : AddressValue
  pub is : to ≡ Ok called
  pub returns : return_to own.point label point (service number came (led_back called (sccp_parts came))) ≡ Some field

pub is-led_back : (own : OwnValue) (label : Label) (number : ℕ) (came : SccpValue) (point : ℕ) (to : Result AddressValue Cause) (field : List ℕ)
    → return_led own label number came point to ≡ Some field → IsLedBack own label number came point to field
is-led_back own label number came point (Err cause) field e = absurd cc
is-led_back own label number came point (Ok called) field e = record { called = called; is = refl; returns = e }

row-returns : (own : OwnValue) (titles : TitlesValue) (label : Label) (number : ℕ) (came : SccpValue) (found : Result TitleEntry Cause) (field : List ℕ) → (sccp_parts came).calling.routing ≡ Title
    → All IsRow titles.rows → IsPartsValue (sccp_parts came) → HasOctetTitles came → unless_barred own titles.prohibited None label.sls (row_of titles.rows (sccp_parts came).calling) ≡ found → return_by_row own titles.prohibited label number came found ≡ Some field → Returns own titles label number came field
row-returns own titles label number came (Err cause) field t all h octets f e = absurd cc
row-returns own titles label number came (Ok row) field t all h octets f e =
    let caller = (sccp_parts came).calling in
    let f = open-found own titles.prohibited None label.sls (row_of titles.rows caller) row f in
    let is = title-row titles.rows (read_title caller.title_indicator caller.title) row all f in
    let point = point_by own titles.prohibited None label.sls row in
    let l = is-led_back own label number came point (translated row caller) field e in
    let b = goes-back own.point label point (service number came (led_back l.called (sccp_parts came))) field l.returns in
    let led = translated-led row caller l.called is octets.calling l.is in
    record {
      point = point;
      point_fits = point-fits own titles.prohibited None label.sls row is;
      elsewhere = b.elsewhere;
      goes = led_back l.called (sccp_parts came);
      fits = record { called = translated-fits row caller l.called is h.calling l.is; calling = h.called };
      writes = b.writes;
      calling = refl;
      back = record { by_number = λ s. absurd (let no = t in cc); not_prohibited = λ ssn s is. absurd (let no = t in cc); by_title = λ s. (row, f, led-to own titles.prohibited None label.sls row, led) };
      carried = refl;
    }

routing-returns : (routing : Routing) (own : OwnValue) (titles : TitlesValue) (label : Label) (number : ℕ) (came : SccpValue) (field : List ℕ) → (sccp_parts came).calling.routing ≡ routing
    → label.opc < 2 ^ 14 → All IsRow titles.rows → IsPartsValue (sccp_parts came) → HasOctetTitles came → return_by routing own titles label number came ≡ Some field → Returns own titles label number came field
routing-returns Title own titles label number came field r l all h octets e = row-returns own titles label number came (unless_barred own titles.prohibited None label.sls (row_of titles.rows (sccp_parts came).calling)) field r all h octets refl e
routing-returns Ssn own titles label number came field r l all h octets e =
    let caller = (sccp_parts came).calling in
    let point = unwrap_or caller.point label.opc in
    let allowed = number-returns own.point titles.prohibited label number came point field e in
    let b = goes-back own.point label point (service number came (sent_back (sccp_parts came))) field allowed.1 in
    record {
      point = unwrap_or caller.point label.opc;
      point_fits = or-fits caller.point label.opc h.calling.point l;
      elsewhere = b.elsewhere;
      goes = sent_back (sccp_parts came);
      fits = record { called = h.calling; calling = h.called };
      writes = b.writes;
      calling = refl;
      back = record {
        by_number = λ s. (refl, refl);
        not_prohibited = λ ssn s is. sym (ap (is_kept_off titles.prohibited point) is) ∙ allowed.0;
        by_title = λ s. absurd (let no = r in cc);
      };
      carried = refl;
    }

pub record ReadsAndReturns (own : OwnValue) (titles : TitlesValue) (label : Label) (caused : Option ℕ) (read : Result SccpValue SccpFault) (field : List ℕ) : Type 0 where
  pub came : SccpValue
  pub number : ℕ
  pub reads : read ≡ Ok came
  pub asks : asks_for_return came ≡ true
  pub has : caused ≡ Some number
  pub returns : return_by (sccp_parts came).calling.routing own titles label number came ≡ Some field

pub read-returns : (own : OwnValue) (titles : TitlesValue) (label : Label) (caused : Option ℕ) (read : Result SccpValue SccpFault) (field : List ℕ)
    → return_read own titles label caused read ≡ Some field → ReadsAndReturns own titles label caused read field
read-returns own titles label None (Ok came) field e = absurd cc
read-returns own titles label None (Err fault) field e = absurd cc
read-returns own titles label (Some number) (Err fault) field e = absurd cc
read-returns own titles label (Some number) (Ok came) field e =
    let r = in-case (asks_for_return came) _ field e in
    record { came = came; number = number; reads = refl; asks = r.0; has = refl; returns = r.1 }

-- ---- the message that returns one

record Serves (number : ℕ) (came : SccpValue) (goes : PartsValue) : Type 0 where
  pub kind : (type_octet came ≡ 9) ⊎ (type_octet came ≡ 17)
  pub asks : second_octet came / 16 ≡ 8
  pub type : type_octet (service number came goes) ≡ type_octet came + 1
  pub second : second_octet (service number came goes) ≡ number
  pub hops : IfSome (hops_of (service number came goes)) (λ hops. hops ≡ 15)
  pub same : sccp_parts (service number came goes) ≡ goes
  pub optional : optional_of (service number came goes) ≡ returned_parameters (optional_of came)

record IsXudt (kind : ExtendedKind) : Type 0 where
  pub type : type_of kind ≡ 17
  pub asks : after_type kind / 16 ≡ 8

is-xudt : (kind : ExtendedKind) → is_kind_returned kind ≡ true → IsXudt kind
is-xudt (Xudt class_octet) e = record { type = refl; asks = eqb-true (class_octet / 16) 8 e }
is-xudt (Xudts return_cause) e = absurd cc

serves : (number : ℕ) (came : SccpValue) (goes : PartsValue) → asks_for_return came ≡ true → Serves number came goes
serves number (Plain (UdtValue class_octet parts)) goes e =
    record { kind = inl refl; asks = eqb-true (class_octet / 16) 8 e; type = refl; second = refl; hops = tt; same = refl; optional = refl }
serves number (Plain (UdtsValue cause parts)) goes e = absurd cc
serves number (Extended v) goes e =
    let x = is-xudt v.kind e in
    record { kind = inr x.type; asks = x.asks; type = rw x.type refl; second = refl; hops = refl; same = refl; optional = refl }

-- the parameters that it keeps are legal
kept-legal : (a b : Option (List ℕ)) → ((octets : List ℕ) → a ≡ Some octets → has_its_length 16 (length octets) ≡ true)
    → ((octets : List ℕ) → b ≡ Some octets → has_its_length 18 (length octets) ≡ true) → list_all is_parameter (parameter_of 16 a ++ parameter_of 18 b) ≡ true
kept-legal None None h k = refl
kept-legal None (Some b) h k = rw (k b refl) refl
kept-legal (Some a) None h k = rw (h a refl) refl
kept-legal (Some a) (Some b) h k = rw (h a refl, k b refl) refl

service-fits : (number : ℕ) (came : SccpValue) (goes : PartsValue) → IsSccpValue came → IsPartsValue goes → IsSccpValue (service number came goes)
service-fits number (Plain u) goes h p = p
service-fits number (Extended v) goes h p = record {
  parts = p;
  optional = kept-legal (first_named 16 v.optional) (first_named 18 v.optional) (λ octets e. named-length 16 octets v.optional h.optional e)
      (λ octets e. named-length 18 octets v.optional h.optional e);
}

service-here : (extended : Bool) (number : ℕ) (came : SccpValue) (goes : PartsValue) → IsReadHere extended came → IsReadHere extended (service number came goes)
service-here extended number (Plain u) goes r = tt
service-here extended number (Extended v) goes r = r

is-returned : (own : OwnValue) (titles : TitlesValue) (sif : List ℕ) (cause : Cause) (field : List ℕ) → AreInRange own titles → AreOctets (drop 4 sif)
    → ReadsAndReturns own titles (label_at sif) (return_cause cause) (read_sccp own.extended (drop 4 sif)) field → IsReturned own titles sif cause field
is-returned own titles sif cause field range octets r =
    let fits = fits-read own.extended (drop 4 sif) r.came octets r.reads in
    let b = routing-returns (sccp_parts r.came).calling.routing own titles (label_at sif) r.number r.came field refl (label-fits sif).opc range.each (parts-fit r.came fits) (titles-read own.extended (drop 4 sif) r.came octets r.reads) r.returns in
    let goes = service r.number r.came b.goes in
    let s = serves r.number r.came b.goes r.asks in
    let w = written-reads own.extended b.point own.point (label_at sif) goes field b.point_fits range.point (label-fits sif)
    (service-here own.extended r.number r.came b.goes (here-read own.extended (drop 4 sif) r.came r.reads)) (service-fits r.number r.came b.goes fits b.fits) b.writes in
    record {
      came = r.came;
      reads = r.reads;
      kind = s.kind;
      asks = s.asks;
      label = sent own b.point goes sif field b.elsewhere w;
      number = r.number;
      caused = r.has;
      goes = goes;
      reads_back = w.back;
      type = s.type;
      second = s.second;
      hops = s.hops;
      calling = rw s.same b.calling;
      back = rw s.same (subst (λ (point : ℕ). GoesBack own titles (label_at sif) (sccp_parts r.came).calling point b.goes.called) (sym (ap (λ (label : Label). label.dpc) w.labelled)) b.back);
      carried = rw s.same b.carried;
      optional = s.optional;
    }

pub returned-udt : a_udts_returns_a_udt
unfolding returned
returned-udt own titles sif cause field range octets e =
    is-returned own titles sif cause field range (octets-dropped 4 sif octets) (read-returns own titles (label_at sif) (return_cause cause) (read_sccp own.extended (drop 4 sif)) field e)
