-- Only a message that says something of a subsystem at another point is heard.
use Rattle.exchange_rules.proofs.Basics.{Bool, Err, List, None, Ok, Option, Result, Some, false, nat_eq, not, refl, ap, ◌∙◌, true, ℕ, ◌&&◌, ◌≡◌}
use Rattle.std.specs.Prelude.{drop, if◌then◌else◌, is_some}
use Rattle.settings.specs.Configuration.{Configuration, TitleEntry}
use Rattle.signalling_types.specs.Message.{Message}
use Rattle.signalling_types.specs.declared.cause.Cause.{Cause}
use Rattle.signalling_types.specs.declared.cause.Cause.TheVariants as causes
use Rattle.mtp3_codec.specs.declared.label.Label.{Label}
use Rattle.mtp3_codec.specs.Headings.{label_at}
use Rattle.sccp_codec.specs.declared.address.Routing.{Routing}
use Rattle.sccp_codec.specs.declared.address.Routing.TheVariants.{Ssn, Title}
use Rattle.sccp_codec.specs.declared.fault.SccpFault.{SccpFault}
use Rattle.sccp_codec.specs.Management.{ManagementValue, read_management}
use Rattle.sccp_codec.specs.Messages.{AddressValue, PartsValue, UdtValue, UdtsValue, is_by_ssn}
use Rattle.sccp_relay.specs.Points.{OwnValue, point_by, unless_barred}
use Rattle.sccp_relay.specs.Relay as relays
use Rattle.sccp_relay.specs.Relay.{RelayedValue, relay}
use Rattle.sccp_relay.specs.Sccp.{Extended, Plain, SccpValue, has_valid_hops, is_connectionless, is_spent, lowered, read_sccp, sccp_parts}
use Rattle.sccp_relay.specs.Statuses.{TitlesValue}
use Rattle.exchange_rules.specs.LawsOfMessages.{says_in, says_status}
use Rattle.exchange_rules.specs.Messages.{own_of}
use Rattle.exchange_rules.specs.State.{Parts}

-- what becomes of a message is that it is heard only where this says so
abbrev pub is_said : (is_heard : Bool) → RelayedValue → Bool
is_said is_heard relays.Delivered = true
is_said is_heard (relays.Onward sif) = true
is_said is_heard (relays.Heard news) = is_heard
is_said is_heard (relays.Refused cause) = true

either-said : (h b : Bool) (v w : RelayedValue) → is_said h v ≡ true → is_said h w ≡ true → is_said h (if b then v else w) ≡ true
either-said h true v w f g = f
either-said h false v w f g = g

unless-said : (h b : Bool) (v w : RelayedValue) → is_said h v ≡ true → (b ≡ true → is_said h w ≡ true) → is_said h (if not b then v else w) ≡ true
unless-said h true v w f g = g refl
unless-said h false v w f g = f

answered-said : (h : Bool) (answer : Option (List ℕ)) (b : Bool) → is_said h (relays.answered_or answer (if b then relays.Delivered else relays.Refused causes.Unequipped)) ≡ true
answered-said h (Some sif) b = refl
answered-said h None true = refl
answered-said h None false = refl

onward-said : (h : Bool) (sif : Option (List ℕ)) → is_said h (relays.onward sif) ≡ true
onward-said h (Some sif) = refl
onward-said h None = refl

module _ (c : Configuration) (p : Parts) (titles : TitlesValue) (label : Label) where
  abbrev own : OwnValue
  own = own_of c p

  subsystem-said : (h : Bool) (message : SccpValue) (ssn : Option ℕ) → is_said h (relays.for_subsystem own label message ssn) ≡ true
  subsystem-said h message ssn = answered-said h (relays.answer own label message ssn) (relays.is_equipped own ssn)

  lead-said : (h : Bool) (message : SccpValue) (point : ℕ) (to : Result AddressValue Cause) → is_said h (relays.lead_on own label message point to) ≡ true
  lead-said h message point (Err cause) = refl
  lead-said h message point (Ok called) = onward-said h _

  row-said : (h : Bool) (message : SccpValue) (row : Result TitleEntry Cause) → is_said h (relays.relay_by_row own titles.prohibited label message row) ≡ true
  row-said h message (Err cause) = refl
  row-said h message (Ok row) =
      let point : ℕ = point_by own titles.prohibited (Some label.opc) label.sls row in
      either-said h (nat_eq point own.point) _ _
      (subsystem-said h message (relays.ssn_by row.route (sccp_parts message).called.ssn))
      (lead-said h message point (relays.translated row (sccp_parts message).called))

  title-said : (h : Bool) (message : SccpValue) → is_said h (relays.relay_by_title own titles label message) ≡ true
  title-said h message =
      either-said h (is_spent (lowered message)) (relays.Refused causes.HopCounter) _ refl
      (row-said h message (unless_barred own titles.prohibited (Some label.opc) label.sls (relays.row_of titles.rows (sccp_parts message).called)))

  news-said : (a m : Bool) (o : Result ManagementValue SccpFault) (v : RelayedValue) → ((h : Bool) → is_said h v ≡ true)
      → is_said (a && (m && says_in c label.opc o)) (relays.heard_or (if a && m then relays.news_in own label.opc o else None) v) ≡ true
  news-said false m o v f = f false
  news-said true false o v f = f false
  news-said true true (Err fault) v f = f false
  news-said true true (Ok about) v f = by (relays.is_status about.kind) (nat_eq label.opc c.own)
    where
      by : (s e : Bool) → is_said (s && not e) (relays.heard_or (if s && not e then Some (relays.news_from label.opc about) else None) v) ≡ true
      by true true = f false
      by true false = refl
      by false e = f false

  routing-said : (r : Routing) (message : SccpValue) → ((h : Bool) → is_said h (relays.for_subsystem own label message (sccp_parts message).called.ssn) ≡ true)
      → (relays.news own label.opc message (sccp_parts message).called.ssn) ≡ None → (h : Bool) → is_said h (relays.relay_by_routing r own titles label message) ≡ true
  routing-said Ssn message f e h = rw e (f h)
  routing-said Title message f e h = title-said h message

  udt-said : (r : Routing) (class_octet : ℕ) (parts : PartsValue)
      → is_said (is_some c.timers.sst && (is_by_ssn r && (relays.is_management parts.called.ssn && says_in c label.opc (read_management parts.data))))
      (relays.relay_by_routing r own titles label (Plain (UdtValue class_octet parts))) ≡ true
  udt-said Ssn class_octet parts =
      news-said (is_some c.timers.sst) (relays.is_management parts.called.ssn) (read_management parts.data) _
      (λ h. subsystem-said h (Plain (UdtValue class_octet parts)) parts.called.ssn)
  udt-said Title class_octet parts = title-said _ (Plain (UdtValue class_octet parts))

  message-said : (message : SccpValue) → is_connectionless message ≡ true → is_said (is_some c.timers.sst && says_status c label.opc (Ok message)) (relays.relay_by_routing (sccp_parts message).called.routing own titles label message) ≡ true
  message-said (Plain (UdtValue class_octet parts)) e =
      let rest : Bool = relays.is_management parts.called.ssn && says_in c label.opc (read_management parts.data) in
      ap (λ (b : Bool). is_said (is_some c.timers.sst && (b && is_by_ssn parts.called.routing && rest)) (relays.relay_by_routing parts.called.routing own titles label (Plain (UdtValue class_octet parts)))) e
      ∙ udt-said parts.called.routing class_octet parts
  message-said (Plain (UdtsValue return_cause parts)) e =
      routing-said parts.called.routing (Plain (UdtsValue return_cause parts)) (λ h. subsystem-said h (Plain (UdtsValue return_cause parts)) parts.called.ssn) refl _
  message-said (Extended extended) e =
      routing-said extended.parts.called.routing (Extended extended) (λ h. subsystem-said h (Extended extended) extended.parts.called.ssn) refl _

  read-said : (r : Result SccpValue SccpFault) → is_said (is_some c.timers.sst && says_status c label.opc r) (relays.relay_read own titles label r) ≡ true
  read-said (Err fault) = refl
  read-said (Ok message) =
      unless-said _ (is_connectionless message) (relays.Refused causes.NotInProfile) _ refl
      (λ e. either-said _ (not (has_valid_hops message)) (relays.Refused causes.HopCounter) _ refl (message-said message e))

pub heard-said : (c : Configuration) (p : Parts) (titles : TitlesValue) (m : Message)
    → is_said (is_some c.timers.sst && says_status c (label_at m.sif).opc (read_sccp c.extended_unitdata (drop 4 m.sif))) (relay (own_of c p) titles m.sif) ≡ true
unfolding relay
heard-said c p titles m = read-said c p titles (label_at m.sif) (read_sccp c.extended_unitdata (drop 4 m.sif))
