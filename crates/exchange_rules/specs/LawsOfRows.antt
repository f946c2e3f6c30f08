-- Where translation rows lead, and how a message goes back by one; and what answers a subsystem test: laws (Q.714 §4.2,
-- §5.2.3, §5.3.2, §5.3.4).
use Rattle.std.specs.Prelude.{◌≡◌, ◌<◌, ◌⊎◌, ◌↔◌, ◌^◌, ℕ, Bool, true, false, nat_eq, nat_le, length, drop}
use Rattle.std.specs.Prelude.{Contains, List, None, Ok, Option, Some}
use Rattle.signalling_types.specs.Message.{Message, service_indicator}
use Rattle.signalling_types.specs.declared.cause.Cause.{Cause}
use Rattle.settings.specs.Configuration.{Configuration, TitleEntry}
use Rattle.settings.specs.declared.title_row.TitleRoute.TheVariants as route
use Rattle.mtp3_codec.specs.declared.label.Label.{Label}
use Rattle.mtp3_codec.specs.Headings.{label_at}
use Rattle.sccp_codec.specs.declared.address.Routing.TheVariants.{Ssn, Title}
use Rattle.sccp_codec.specs.declared.management.ManagementKind.TheVariants.{SubsystemAllowed, SubsystemStatusTest}
use Rattle.sccp_codec.specs.Management.{ManagementValue, read_management}
use Rattle.sccp_codec.specs.Messages.{PartsValue, UdtValue}
use Rattle.sccp_relay.specs.Points.{OwnValue, is_open, is_shut}
use Rattle.sccp_relay.specs.Relay.{row_of, translated}
use Rattle.sccp_relay.specs.Returning.{return_cause, return_led, returned}
use Rattle.sccp_relay.specs.Sccp.{SccpValue, Plain, asks_for_return, is_class_connectionless, read_sccp, sccp_parts}
use Rattle.sccp_relay.specs.Statuses.{TitlesValue, is_full, leads_to}
use Rattle.sccp_relay.specs.declared.subsystem.ProhibitedSubsystem.{ProhibitedSubsystem}
use Rattle.sccp_relay.specs.declared.subsystem.Subsystem.{Subsystem}
use Rattle.exchange_rules.specs.State.{Node}
use Rattle.exchange_rules.specs.Messages.{local, return_refusal, sccp, transfer}
use Rattle.exchange_rules.specs.LawsOfSubsystems.{IsManagementAddress}
use Rattle.exchange_rules.specs.Queues.{WholeQueues, whole}

-- ---- which subsystems rows lead to

-- a row leads to a subsystem if it is routed by its number, and its point or its backup is that of the subsystem
pub record LeadsTo (subsystem : Subsystem) (row : TitleEntry) : Type 0 where
  pub by_number : row.route ≡ route.Ssn subsystem.ssn
  pub there : (row.point ≡ subsystem.point) ⊎ (row.backup ≡ Some subsystem.point)

abbrev pub rows_lead_to_point_and_backup : Type 0
rows_lead_to_point_and_backup =
    (subsystem : Subsystem) (row : TitleEntry) → (leads_to subsystem row ≡ true) ↔ LeadsTo subsystem row

-- as many as 256 subsystems may be prohibited at once
abbrev pub rows_have_room : Type 0
rows_have_room = (prohibited : List ProhibitedSubsystem) → is_full prohibited ≡ nat_le 256 (length prohibited)

-- ---- how a message goes back to a title

-- a refused message is to go back to a title: it asks for that, there is a return cause, and a row has the title from
-- which it was called
pub record GoesToTitle (own : OwnValue) (titles : TitlesValue) (sif : List ℕ) (cause : Cause) : Type 0 where
  pub came : SccpValue
  pub reads : read_sccp own.extended (drop 4 sif) ≡ Ok came
  pub asks : asks_for_return came ≡ true
  pub number : ℕ
  pub caused : return_cause cause ≡ Some number
  pub titled : (sccp_parts came).calling.routing ≡ Title
  pub row : TitleEntry
  pub finds : row_of titles.rows (sccp_parts came).calling ≡ Ok row

-- what goes back to a point, as a row leads it
abbrev pub sent_back_to : (own : OwnValue) → (sif : List ℕ) → (number : ℕ) → (came : SccpValue) → TitleEntry
    → (point : ℕ) → Option (List ℕ)
sent_back_to own sif number came row point =
    return_led own (label_at sif) number came point (translated row (sccp_parts came).calling)

-- It goes to the point of the row, if that is open; else to the backup, if that is, also where the refused message came
-- from there; else to the point, unless the subsystem at one of them is prohibited. So nothing but that keeps it
pub record GoesBackByRow (own : OwnValue) (titles : TitlesValue) (sif : List ℕ) (cause : Cause)
    (g : GoesToTitle own titles sif cause) : Type 0 where
  pub first : is_open own titles.prohibited (label_at sif).sls g.row.route g.row.point ≡ true →
      returned own titles sif cause ≡ sent_back_to own sif g.number g.came g.row g.row.point
  pub second : (backup : ℕ) → g.row.backup ≡ Some backup →
      is_open own titles.prohibited (label_at sif).sls g.row.route g.row.point ≡ false →
      is_open own titles.prohibited (label_at sif).sls g.row.route backup ≡ true →
      returned own titles sif cause ≡ sent_back_to own sif g.number g.came g.row backup
  pub neither : is_shut own titles.prohibited (label_at sif).sls g.row.route g.row.point ≡ false →
      ((backup : ℕ) → g.row.backup ≡ Some backup →
      (is_open own titles.prohibited (label_at sif).sls g.row.route backup ≡ false)
      × (is_shut own titles.prohibited (label_at sif).sls g.row.route backup ≡ false)) →
      returned own titles sif cause ≡ sent_back_to own sif g.number g.came g.row g.row.point

abbrev pub messages_go_back_by_rows : Type 0
messages_go_back_by_rows =
    (own : OwnValue) (titles : TitlesValue) (sif : List ℕ) (cause : Cause) (g : GoesToTitle own titles sif cause) →
    GoesBackByRow own titles sif cause g

-- ---- what answers a subsystem test

-- a message of SCCP for this point from another asks for a subsystem here: it is a UDT of a class without a connection,
-- for SCCP management by its subsystem number, with an SST, where these are answered. Its multiplicity indicator may be
-- any
pub record IsSubsystemTest (c : Configuration) (m : Message) (about : ManagementValue) : Type 0 where
  pub answered : c.subsystem_tests ≡ true
  pub of_sccp : nat_eq (service_indicator m) sccp ≡ true
  pub class_octet : ℕ
  pub parts : PartsValue
  pub reads : read_sccp c.extended_unitdata (drop 4 m.sif) ≡ Ok (Plain (UdtValue class_octet parts))
  pub connectionless : is_class_connectionless class_octet ≡ true
  pub routed : parts.called.routing ≡ Ssn
  pub management : parts.called.ssn ≡ Some 1
  pub elsewhere : nat_eq (label_at m.sif).opc c.own ≡ false
  pub says : read_management parts.data ≡ Ok about
  pub test : about.kind ≡ SubsystemStatusTest
  pub point : about.point ≡ c.own
  pub equipped : (about.ssn ≡ 1) ⊎ Contains c.subsystems about.ssn

-- a field reads as the answer: an SSA about the same subsystem in a UDT of class 0, to SCCP management at the point
-- that asked, by the same link selection; its multiplicity indicator is 0
pub record ReadsAsAnswer (c : Configuration) (asked : Label) (about : ManagementValue) (field : List ℕ) : Type 0 where
  pub label : label_at field ≡ record { dpc = asked.opc; opc = c.own; sls = asked.sls }
  pub parts : PartsValue
  pub reads : (extended : Bool) → read_sccp extended (drop 4 field) ≡ Ok (Plain (UdtValue 0 parts))
  pub called : IsManagementAddress parts.called
  pub calling : IsManagementAddress parts.calling
  pub says : read_management parts.data
      ≡ Ok (record { kind = SubsystemAllowed; ssn = about.ssn; point = about.point; multiplicity = 0 })

-- it goes the way of any message for another point
pub record IsAllowedBack (c : Configuration) (from : Option ℕ) (m : Message) (about : ManagementValue)
    (node : Node WholeQueues) : Type 0 where
  pub field : List ℕ
  pub answers : ReadsAsAnswer c (label_at m.sif) about field
  pub sent :
      local whole c from m node
      ≡ return_refusal whole c m (transfer whole c None (record m { sif = field }) node)

abbrev pub subsystem_tests_are_answered : Type 0
subsystem_tests_are_answered =
    (c : Configuration) (from : Option ℕ) (m : Message) (about : ManagementValue) (node : Node WholeQueues) →
    c.own < 2 ^ 14 → IsSubsystemTest c m about → IsAllowedBack c from m about node
