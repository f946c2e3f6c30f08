-- HMRT, message routing (Q.704 §2.3): room in the pool and in the link's share of it, then Held if the flow has a hold,
-- then a route, then the end of a queue.
use Rattle.std.specs.Prelude.{ℕ, Bool, true, false, Option, Some, None, is_some, unwrap_or, if◌then◌else◌, List, [], map, ◌&&◌, nat_eq, position, Result, Ok, Err, nat_lt, length}
use Rattle.signalling_types.specs.Message.{Message, flow_of, dpc_of, service_indicator, opc_of, is_management}
use Rattle.settings.specs.Configuration.{Configuration, TitleEntry}
use Rattle.settings.specs.Readings.{destination_place, set_place}
use Rattle.signalling_types.specs.declared.cause.Cause.{Cause}
use Rattle.signalling_types.specs.declared.cause.Cause.TheVariants.{UnknownDestination, NoRoute, NoSuchName, NoMemory, NotInProfile, NoUserPart, BadManagement, NotFromAdjacent, TooLong}
use Rattle.signalling_types.specs.declared.outcome.Outcome.TheVariants.{Queued, Held, Local, Handled, Ignored, Refused}
use Rattle.exchange_rules.specs.State.{unless◌then◌else◌, QueueKind, Node, Done, refuse, Parts, with_parts, answer, note_refusal}
use Rattle.exchange_rules.specs.Routing.{link_of, waits, hold, no_room, no_room_on, queue_on, route_about}
use Rattle.exchange_rules.specs.Telling.{answer_no_route, answer_no_user_part, own_sio, send_on, on_route_test}
use Rattle.std.specs.Option.{option_or, option_and_then}
use Rattle.signalling_types.specs.declared.outcome.Outcome.{Outcome}
use Rattle.sccp_codec.specs.declared.title.TitleKey.{TitleKey}
use Rattle.sccp_relay.specs.Rows.{place_of, row_place, has_row, with_row, without_row, add_refusal}
use Rattle.sccp_relay.specs.Points.{OwnValue}
use Rattle.sccp_relay.specs.Returning.{returned}
use Rattle.sccp_relay.specs.Relay as relays
use Rattle.sccp_relay.specs.Statuses.{TitlesValue, heard}
use Rattle.sccp_relay.specs.SubsystemTests.{due_tests, test_field}
use Rattle.sccp_relay.specs.SubsystemTests as tests
use Rattle.sccp_relay.specs.declared.subsystem.Subsystem.{Subsystem}
use Rattle.std.specs.List.{list_any}
use Rattle.mtp3_codec.specs.declared.fault.MgmtFault.{MgmtFault}
use Rattle.mtp3_codec.specs.declared.fault.MgmtFault.TheVariants as faults
use Rattle.mtp3_codec.specs.declared.link_test.TestKind.{TestKind}
use Rattle.mtp3_codec.specs.declared.link_test.TestKind.TheVariants.{Test, Acknowledgement}
use Rattle.mtp3_codec.specs.declared.management.Management.{Management}
use Rattle.mtp3_codec.specs.declared.management.Management.TheVariants.{TrafficRestartAllowed, ExtendedChangeoverOrder, ExtendedChangeoverAcknowledgement, EmergencyChangeoverOrder, EmergencyChangeoverAcknowledgement, ChangebackDeclaration, ChangebackAcknowledgement, TransferProhibited, TransferRestricted, TransferAllowed, RouteSetTestProhibited, RouteSetTestRestricted, UserPartUnavailable}
use Rattle.mtp3_codec.specs.Management.{LinkTestValue, read_link_test, answer_to, read_management}
use Rattle.routes.specs.declared.route.RouteStatus.TheVariants as status
use Rattle.route_management.specs.declared.heard.RouteTest.TheVariants as test
use Rattle.exchange_rules.specs.ChangingOver.{on_changeover_order, on_changeover_acknowledgement}
use Rattle.exchange_rules.specs.LinkTests.{testing, test_message, on_test_answer}
use Rattle.exchange_rules.specs.ChangingBack.{on_changeback_declaration, on_changeback_acknowledgement}
use Rattle.exchange_rules.specs.Rerouting.{on_route_status}
use Rattle.signalling_types.specs.declared.limits.TheConstants.Limits.{SIF_OCTETS}
use Rattle.mtp3_codec.specs.Headings.{discrimination}
use Rattle.mtp3_codec.specs.declared.discrimination.Discrimination.{Discrimination}
use Rattle.mtp3_codec.specs.declared.discrimination.Discrimination.TheVariants as whither

-- whether the settings have a destination of this point code
abbrev pub is_destination : Configuration → ℕ → Bool
is_destination c point = is_some (destination_place c point)

module _ {Q : Type 0} (q : QueueKind Q) (c : Configuration) where
  -- room first; then a message that waits goes to the end of Held; then the route, and the message goes to the end of
  -- that link's queue. The sender of one that came by a link and finds no route is told so
  abbrev pub offer : Option Cause → (is_waiting : Bool) → (link from : Option ℕ) → Message → Node Q → Done Q
  offer (Some cause) is_waiting link from m node = refuse cause node
  offer None true link from m node = record { outcome = Held; left = hold q m node }
  offer None false None from m node =
      refuse NoRoute (answer_no_route q c from (destination_place c (dpc_of m)) node)
  offer None false (Some link) from m node = record { outcome = Queued link; left = queue_on q c link m node }

  -- why a message for another point finds no room, if it finds none: in the pool, then in its link's share
  abbrev pub no_room_for : Message → Node Q → Option Cause
  no_room_for m node =
      option_or (no_room q c m node.queues)
      (no_room_on q c (link_of c node.parts (flow_of m)) (waits c node.parts.holds m) m node.queues)

  -- a message for another point, with the link that it came by, if any: a known destination, then room, then no hold,
  -- then a route
  abbrev pub transfer : (from : Option ℕ) → Message → Node Q → Done Q
  transfer from m node =
      unless is_destination c (dpc_of m) then refuse UnknownDestination node
      else offer (no_room_for m node) (waits c node.parts.holds m) (link_of c node.parts (flow_of m)) from m node

-- ---- SCRC, SCCP routing control (Q.714 §2.3, §4.2): SCCP messages for this point, and the rows that lead them on.

-- the point that this node is, its subsystems, what it does for SCCP, and whether the flow to a point has a link
abbrev pub own_of : Configuration → Parts → OwnValue
own_of c p = record {
  point = c.own;
  subsystems = c.subsystems;
  extended = c.extended_unitdata;
  answers_tests = c.subsystem_tests;
  hears_statuses = is_some c.timers.sst;
  leads = λ point sls. is_some (link_of c p (record { point = point; sls = sls }));
}

-- the ticks between two tests of a prohibited subsystem; 0 if what other points say of theirs isn't heard
abbrev pub sst_ticks : Configuration → ℕ
sst_ticks c = unwrap_or c.timers.sst 0

-- the same parts with other translation rows, or other prohibited subsystems
abbrev pub with_titles : TitlesValue → Parts → Parts
with_titles titles p = record p { titles = titles }

-- a message in the place of another, with the same service information octet
abbrev pub in_place_of : Message → (sif : List ℕ) → Message
in_place_of m sif = record m { sif = sif }

module _ {Q : Type 0} (q : QueueKind Q) (c : Configuration) where
  -- ---- a refused message is returned

  -- the UDTS or XUDTS that returns a message, if one does, goes the way of any message for another point; if there is
  -- no way, it is dropped
  abbrev pub send_udts : (udts : Option (List ℕ)) → Message → Node Q → Node Q
  send_udts (Some sif) m node = (transfer q c None (in_place_of m sif) node).left
  send_udts None m node = node

  abbrev pub return_unitdata : Cause → Message → Node Q → Node Q
  return_unitdata cause m node = send_udts (returned (own_of c node.parts) node.parts.titles m.sif cause) m node

  abbrev pub return_outcome : Outcome → Message → Node Q → Node Q
  return_outcome (Refused cause) m node = return_unitdata cause m node
  return_outcome (Queued link) m node = node
  return_outcome Held m node = node
  return_outcome Local m node = node
  return_outcome Handled m node = node
  return_outcome Ignored m node = node

  abbrev pub return_refusal : Message → Done Q → Done Q
  return_refusal m d = record d { left = return_outcome d.outcome m d.left }

  -- ---- a message

  -- by what becomes of it: one that goes on goes the way of any message for another point, and nobody is told if it
  -- finds no route; what it says of a subsystem at another point is heard
  abbrev pub relay_by : relays.RelayedValue → Message → Node Q → Done Q
  relay_by relays.Delivered m node = answer Local node
  relay_by (relays.Onward sif) m node = transfer q c None (in_place_of m sif) node
  relay_by (relays.Heard news) m node =
      answer Handled (with_parts node (with_titles (heard (sst_ticks c) news node.parts.titles) node.parts))
  relay_by (relays.Refused cause) m node = refuse cause node

  -- an SCCP message for this point
  abbrev pub on_unitdata : Message → Node Q → Done Q
  on_unitdata m node = return_refusal m (relay_by (relays.relay (own_of c node.parts) node.parts.titles m.sif) m node)

-- ---- translation rows

-- the same parts with other rows
abbrev pub with_rows : List TitleEntry → Parts → Parts
with_rows rows p = with_titles (record p.titles { rows = rows }) p

-- why a row isn't added: the table's refusal, else that memory for it was refused
abbrev pub title_refusal : List TitleEntry → TitleEntry → (is_memory_refused : Bool) → Option Cause
title_refusal titles row is_memory_refused =
    option_or (add_refusal titles row) (if is_memory_refused then Some NoMemory else None)

abbrev pub add_title_unless : {Q : Type 0} → Option Cause → TitleEntry → Node Q → Done Q
add_title_unless (Some cause) row node = refuse cause node
add_title_unless None row node =
    answer Handled (with_parts node (with_rows (with_row row node.parts.titles.rows) node.parts))

-- an operator adds a row
abbrev pub add_title : {Q : Type 0} → TitleEntry → (is_memory_refused : Bool) → Node Q → Done Q
add_title row is_memory_refused node =
    add_title_unless (title_refusal node.parts.titles.rows row is_memory_refused) row node

-- why a row isn't set: there is none of its key and digits to replace, and it isn't added
abbrev pub title_set_refusal : List TitleEntry → TitleEntry → (is_memory_refused : Bool) → Option Cause
title_set_refusal titles row is_memory_refused =
    if has_row titles (row_place row) then None else title_refusal titles row is_memory_refused

-- an operator sets a row: it replaces the one of its key and digits, or is added
abbrev pub set_title : {Q : Type 0} → TitleEntry → (is_memory_refused : Bool) → Node Q → Done Q
set_title row is_memory_refused node =
    add_title_unless (title_set_refusal node.parts.titles.rows row is_memory_refused) row node

-- an operator removes the row of this key and these digits
abbrev pub remove_title : {Q : Type 0} → TitleKey → (digits : List ℕ) → Node Q → Done Q
remove_title key digits node =
    unless has_row node.parts.titles.rows (place_of key digits) then refuse NoSuchName node
    else answer Handled
    (with_parts node (with_rows (without_row (place_of key digits) node.parts.titles.rows) node.parts))

-- ---- tests of prohibited subsystems at other points (Q.714 §5.3.4)

-- the service indicator of SCCP; that of management is 0, that of tests 1
abbrev pub sccp : ℕ
sccp = 3

-- the test of a subsystem
abbrev pub test_of : Configuration → Subsystem → Message
test_of c subsystem = record { sio = own_sio c sccp; sif = test_field c.own subsystem }

-- those that are due, if what other points say of their subsystems is heard
abbrev pub tests_due : Configuration → Parts → List Message
tests_due c p = if is_some c.timers.sst then map (test_of c) (due_tests p.titles) else []

-- a tick, as prohibited subsystems have it
abbrev pub subsystems_ticked : Configuration → Parts → Parts
subsystems_ticked c p = with_titles (tests.ticked (own_of c p) (sst_ticks c) p.titles) p

-- ---- HMDT, message distribution (Q.704 §2.4): a message for this point, by its service indicator (§14.2.1).

-- whether this node has a user part of this service indicator
abbrev pub is_user : Configuration → ℕ → Bool
is_user c service_indicator = list_any (λ user. nat_eq user service_indicator) c.users

-- whether the links of some set lead to this point
abbrev pub is_adjacent : Configuration → ℕ → Bool
is_adjacent c point = is_some (set_place c point)

-- whether a message says that a user part isn't at its sender
abbrev pub is_unavailability : Result Management MgmtFault → Bool
is_unavailability (Ok (UserPartUnavailable point user_part cause)) = true
is_unavailability _ = false

abbrev pub says_unavailable : Message → Bool
says_unavailable m = nat_eq (service_indicator m) 0 && is_unavailability (read_management m.sif)

-- such a message is handled and has no other effect; it is left out if this node doesn't say so itself
abbrev pub on_unavailable : Configuration → Outcome
on_unavailable c = if c.user_part_unavailable then Handled else Refused NotInProfile

-- management and tests of a point that isn't adjacent aren't accepted, but that a user part isn't there
abbrev pub from_afar : Configuration → Message → Outcome
from_afar c m = if c.user_part_unavailable && says_unavailable m then Handled else Refused NotFromAdjacent

-- why a management or test message that can't be read is refused
abbrev pub cause_of : MgmtFault → Cause
cause_of faults.Short = BadManagement
cause_of faults.NotInProfile = NotInProfile

-- the answer to a link test from a point
abbrev pub test_answer : Configuration → ℕ → LinkTestValue → Message
test_answer c point test = test_message c point (answer_to test)

-- the link of a code in a set
abbrev pub link_in_set : Configuration → (slc set : ℕ) → Option ℕ
link_in_set c slc set = position (λ l. nat_eq l.set set && nat_eq l.slc slc) c.links

-- the link of a code in the set that leads to a point
abbrev pub link_with_code : Configuration → (point slc : ℕ) → Option ℕ
link_with_code c point slc = option_and_then (link_in_set c slc) (set_place c point)

module _ {Q : Type 0} (q : QueueKind Q) (c : Configuration) where
  -- a link test is answered on the link that it came by, and an answer to one goes to the test of that link
  -- (Q.707 §2.2)
  abbrev pub do_kind : TestKind → ℕ → ℕ → LinkTestValue → Node Q → Done Q
  do_kind Test link point test node = answer Handled (send_on q c link (test_answer c point test) node)
  do_kind Acknowledgement link point test node = on_test_answer q c link point test node

  abbrev pub do_test : Result LinkTestValue MgmtFault → ℕ → ℕ → Node Q → Done Q
  do_test (Err fault) link point node = refuse (cause_of fault) node
  do_test (Ok test) link point node = do_kind test.kind link point test node

  -- an order to change over, or the answer to one, is about a link of the set to its sender
  abbrev pub do_order : Option ℕ → (number : Option ℕ) → Node Q → Done Q
  do_order (Some link) number node = on_changeover_order q c link number node
  do_order None number node = refuse BadManagement node

  abbrev pub do_acknowledgement : Option ℕ → (number : Option ℕ) → Node Q → Done Q
  do_acknowledgement (Some link) number node = on_changeover_acknowledgement q c link number node
  do_acknowledgement None number node = refuse BadManagement node

  -- a management message from a point; this node does nothing about one that says it has restarted
  abbrev pub on_management : Management → ℕ → Node Q → Done Q
  on_management TrafficRestartAllowed point node = answer Ignored node
  on_management (ExtendedChangeoverOrder slc number) point node =
      do_order (link_with_code c point slc) (Some number) node
  on_management (EmergencyChangeoverOrder slc) point node =
      do_order (link_with_code c point slc) None node
  on_management (ExtendedChangeoverAcknowledgement slc number) point node =
      do_acknowledgement (link_with_code c point slc) (Some number) node
  on_management (EmergencyChangeoverAcknowledgement slc) point node =
      do_acknowledgement (link_with_code c point slc) None node
  on_management (ChangebackDeclaration slc code) point node = on_changeback_declaration q c point slc code node
  on_management (ChangebackAcknowledgement slc code) point node =
      on_changeback_acknowledgement q c (set_place c point) code node
  on_management (TransferProhibited about) point node =
      on_route_status q c status.Prohibited (route_about (set_place c point) (destination_place c about)) node
  on_management (TransferRestricted about) point node =
      on_route_status q c status.Restricted (route_about (set_place c point) (destination_place c about)) node
  on_management (TransferAllowed about) point node =
      on_route_status q c status.Allowed (route_about (set_place c point) (destination_place c about)) node
  on_management (RouteSetTestProhibited about) point node =
      on_route_test q c test.Prohibited (route_about (set_place c point) (destination_place c about)) node
  on_management (RouteSetTestRestricted about) point node =
      on_route_test q c test.Restricted (route_about (set_place c point) (destination_place c about)) node
  on_management (UserPartUnavailable about user_part cause) point node = answer (on_unavailable c) node

  abbrev pub do_management : Result Management MgmtFault → ℕ → Node Q → Done Q
  do_management (Err fault) point node = refuse (cause_of fault) node
  do_management (Ok message) point node = on_management message point node

  -- management and tests, by the link that they came by
  abbrev pub manage : ℕ → Message → Node Q → Done Q
  manage link m node =
      unless is_adjacent c (opc_of m) then answer (from_afar c m) node
      else if nat_eq (service_indicator m) testing
      then do_test (read_link_test m.sif) link (opc_of m) node
      else do_management (read_management m.sif) (opc_of m) node

  -- a message for SCCP, or for a user part, with the link that it came by, if any. The sender of one that came by a
  -- link for a user part that isn't here is told so
  abbrev pub local : (from : Option ℕ) → Message → Node Q → Done Q
  local from m node =
      if nat_eq (service_indicator m) sccp then on_unitdata q c m node
      else if is_user c (service_indicator m) then answer Local node
      else refuse NoUserPart (answer_no_user_part q c from (destination_place c (opc_of m)) m node)

  -- a message for this point, by the link that it came by
  abbrev pub distribute : ℕ → Message → Node Q → Done Q
  distribute link m node = (if is_management m then manage link m node else local (Some link) m node)

-- ---- HMDC, message discrimination (Q.704 §2.4): where a message goes, and what becomes of it.

-- where a message goes, or why it is refused before its destination is looked at: its length, then its label, then its
-- network
abbrev pub whither_goes : Configuration → Message → Discrimination
whither_goes c m =
    if nat_lt SIF_OCTETS (length m.sif) then whither.Refused TooLong else discrimination m c.own c.network

module _ {Q : Type 0} (q : QueueKind Q) (c : Configuration) where
  -- a message in a frame, once it is known where it goes
  abbrev pub deliver_to : Discrimination → ℕ → Message → Node Q → Done Q
  deliver_to (whither.Refused cause) link m node = refuse cause node
  deliver_to (whither.Here label) link m node = distribute q c link m node
  deliver_to (whither.Transfer label) link m node = transfer q c (Some link) m node

  -- a message in a frame, with the link that it came by; a refusal is noted
  abbrev pub deliver : ℕ → Message → Node Q → Done Q
  deliver link m node = note_refusal link (deliver_to (whither_goes c m) link m node)

  -- a submission, once it is known where it goes: management and test messages are never submitted
  abbrev pub submit_to : Discrimination → Message → Node Q → Done Q
  submit_to (whither.Refused cause) m node = refuse cause node
  submit_to (whither.Here label) m node = (if is_management m then refuse NotInProfile node else local q c None m node)
  submit_to (whither.Transfer label) m node =
      (if is_management m then refuse NotInProfile node else transfer q c None m node)

  -- a message that a user part hands over
  abbrev pub submit : Message → Node Q → Done Q
  submit m node = submit_to (whither_goes c m) m node
