-- The management that a node sends in vain, for want of room or of a link, as a link fails, and about each message that
-- comes: reasons of Unsent.
use Rattle.std.specs.Prelude.{Bool, Err, List, None, Ok, Option, Result, Some, [], false, if◌then◌else◌, nat_eq, not, true, ℕ, ◌&&◌, ◌||◌, ◌++◌, ◌∷◌}
use Rattle.signalling_types.specs.Message.{Message, dpc_of, flow_of, is_management, opc_of, service_indicator}
use Rattle.signalling_types.specs.declared.cause.Cause.{Cause}
use Rattle.signalling_types.specs.declared.cause.Cause.TheVariants.{NoRoute}
use Rattle.signalling_types.specs.declared.notice.ChangeoverTimer.{ChangeoverTimer}
use Rattle.signalling_types.specs.declared.notice.FailureReason.{FailureReason}
use Rattle.signalling_types.specs.declared.notice.Notice.{Notice}
use Rattle.signalling_types.specs.declared.notice.Notice.TheVariants as notices
use Rattle.signalling_types.specs.declared.outcome.Outcome.{Outcome}
use Rattle.settings.specs.Configuration.{Configuration}
use Rattle.settings.specs.Readings.{destination_place, set_place}
use Rattle.mtp3_codec.specs.Management.{LinkTestValue, read_link_test, read_management}
use Rattle.mtp3_codec.specs.declared.discrimination.Discrimination.{Discrimination}
use Rattle.mtp3_codec.specs.declared.discrimination.Discrimination.TheVariants as whither
use Rattle.mtp3_codec.specs.declared.fault.MgmtFault.{MgmtFault}
use Rattle.mtp3_codec.specs.declared.link_test.TestKind.{TestKind}
use Rattle.mtp3_codec.specs.declared.link_test.TestKind.TheVariants.{Acknowledgement, Test}
use Rattle.mtp3_codec.specs.declared.management.Management.{Management}
use Rattle.mtp3_codec.specs.declared.management.Management.TheVariants.{ChangebackDeclaration, EmergencyChangeoverAcknowledgement, EmergencyChangeoverOrder, ExtendedChangeoverAcknowledgement, ExtendedChangeoverOrder, RouteSetTestProhibited, RouteSetTestRestricted}
use Rattle.route_management.specs.Told.{answer_to_test, is_own_point}
use Rattle.route_management.specs.declared.heard.RouteTest.{RouteTest}
use Rattle.route_management.specs.declared.heard.RouteTest.TheVariants as test
use Rattle.routes.specs.declared.route.RouteStatus.{RouteStatus}
use Rattle.routes.specs.declared.route.RouteStatus.TheVariants.{Prohibited}
use Rattle.exchange_rules.specs.State.{Found, Node, down, in_service, is_link, with_parts}
use Rattle.exchange_rules.specs.Routing.{facts, link_of, no_room, route_about, set_of, waits}
use Rattle.exchange_rules.specs.Queues.{WholeQueues, whole}
use Rattle.exchange_rules.specs.Telling.{answered_parts, inhibited, is_inhibited, is_led, is_unequipped_told, may_tell, route_message, send_anew, unavailable, unequipped_counted}
use Rattle.exchange_rules.specs.ChangingOver.{bar, barred, changeover_acknowledgement, changeover_of, changeover_order, changing, complete_by_order, concluded, fail_by_order, is_ordered, make_unavailable, with_changeover, with_changeover_acknowledged, with_expiry}
use Rattle.changeover.specs.Changeover.{completed}
use Rattle.exchange_rules.specs.ChangingBack.{changeback_acknowledgement}
use Rattle.exchange_rules.specs.LinkTests.{testing}
use Rattle.exchange_rules.specs.Messages.{is_adjacent, is_destination, is_user, link_with_code, no_room_for, sccp, test_answer, whither_goes}

-- ---- one message

-- a message that finds no room or no link is given up
abbrev pub given_up : (room : Option Cause) → (link : Option ℕ) → Message → List Notice
given_up (Some cause) link m = notices.Unsent cause (dpc_of m) ∷ []
given_up None None m = notices.Unsent NoRoute (dpc_of m) ∷ []
given_up None (Some link) m = []

-- which ones each rule sends; a rule that isn't here sends none in vain
module _ (c : Configuration) where
  -- a message made here, on the link of its flow
  abbrev pub unsent : Message → Node WholeQueues → List Notice
  unsent m node = given_up (no_room whole c m node.queues) (link_of c node.parts (flow_of m)) m

  -- messages of a failed link that are queued again: they have their room
  abbrev pub unsent_anew : List Message → Node WholeQueues → List Notice
  unsent_anew [] node = []
  unsent_anew (m ∷ ms) node =
      given_up None (link_of c node.parts (flow_of m)) m ++ unsent_anew ms (send_anew whole c m node)

  -- ---- a link fails: the order to change over, if one goes out (Q.704 §5.2)

  abbrev pub unsent_order : (ordered : Bool) → ℕ → Node WholeQueues → List Notice
  unsent_order true link node =
      unsent (changeover_order c link (whole.last_accepted node.queues link))
      (with_parts node (changing c true link node.parts))
  unsent_order false link node = []

  abbrev pub unsent_beginning : (served : Bool) → ℕ → Node WholeQueues → List Notice
  unsent_beginning true link node = unsent_order (is_ordered c link node.parts) link node
  unsent_beginning false link node = []

  abbrev pub unsent_failing : ℕ → FailureReason → Node WholeQueues → List Notice
  unsent_failing link why node =
      unsent_beginning (in_service node.parts link) link
      (make_unavailable whole c (in_service node.parts link) link why node)

  -- a link that is down doesn't fail again
  abbrev pub unsent_falling : ℕ → FailureReason → Node WholeQueues → List Notice
  unsent_falling link why node = if down node.parts link then [] else unsent_failing link why node

  -- ---- a changeover is completed: the management that the peer lacks is queued again (§5.4)

  abbrev pub unsent_completing : (incomplete : Bool) → ℕ → Option ℕ → Node WholeQueues → List Notice
  unsent_completing true link number node =
      let found : Found = whole.found node.queues link number in
      unsent_anew found.queued_anew
      (record { queues = whole.completed node.queues link number; parts = concluded link found node.parts })
  unsent_completing false link number node = []

  -- by the peer's order, which is answered
  abbrev pub unsent_by_order : Option ℕ → Option ℕ → Node WholeQueues → List Notice
  unsent_by_order (Some link) number node =
      let fallen : Node WholeQueues = bar whole c link (fail_by_order whole c link node) in
      let ended : Node WholeQueues =
      with_parts fallen (with_changeover link (completed (changeover_of fallen.parts link)) fallen.parts) in
      let done : Node WholeQueues = complete_by_order whole c link number fallen in
      unsent_completing (changeover_of fallen.parts link).incomplete link number ended
      ++ unsent (changeover_acknowledgement c link (whole.last_accepted done.queues link)) done
  unsent_by_order None number node = []

  -- by the peer's answer, if it is awaited
  abbrev pub unsent_by_answer : Option ℕ → Option ℕ → Node WholeQueues → List Notice
  unsent_by_answer (Some link) number node =
      if (changeover_of node.parts link).awaited
      then unsent_completing (changeover_of node.parts link).incomplete link number
      (with_parts node (with_changeover_acknowledged link node.parts))
      else []
  unsent_by_answer None number node = []

  -- by T1 or T2
  abbrev pub unsent_by_expiry : ChangeoverTimer → ℕ → Node WholeQueues → List Notice
  unsent_by_expiry which link node =
      if is_link node.parts link
      then unsent_completing (changeover_of node.parts link).incomplete link None
      (with_parts node (with_expiry c which link (barred c link node.parts)))
      else []

  -- ---- other words of an adjacent point

  -- a route set test, if it is answered (§13.5); for want of a link it isn't
  abbrev pub unsent_status : Option RouteStatus → (set destination : ℕ) → Node WholeQueues → List Notice
  unsent_status (Some status) set destination node =
      if is_led c (route_message c set destination status) node.parts
      then unsent (route_message c set destination status)
      (with_parts node (answered_parts set destination status node.parts))
      else []
  unsent_status None set destination node = []

  abbrev pub unsent_by_route_test : RouteTest → Result (ℕ × ℕ) Outcome → Node WholeQueues → List Notice
  unsent_by_route_test asked (Ok (set, destination)) node =
      if is_own_point node.parts.told set destination
      then []
      else unsent_status (answer_to_test (facts c node.parts) node.parts.told set destination asked) set destination
      node
  unsent_by_route_test asked (Err outcome) node = []

  -- of all management these are answered; a changeback declaration by its acknowledgement (§6.3)
  abbrev pub unsent_by_management : Management → ℕ → Node WholeQueues → List Notice
  unsent_by_management (ExtendedChangeoverOrder slc number) point node =
      unsent_by_order (link_with_code c point slc) (Some number) node
  unsent_by_management (EmergencyChangeoverOrder slc) point node =
      unsent_by_order (link_with_code c point slc) None node
  unsent_by_management (ExtendedChangeoverAcknowledgement slc number) point node =
      unsent_by_answer (link_with_code c point slc) (Some number) node
  unsent_by_management (EmergencyChangeoverAcknowledgement slc) point node =
      unsent_by_answer (link_with_code c point slc) None node
  unsent_by_management (ChangebackDeclaration slc code) point node =
      unsent (changeback_acknowledgement c point slc code) node
  unsent_by_management (RouteSetTestProhibited about) point node =
      unsent_by_route_test test.Prohibited (route_about (set_place c point) (destination_place c about)) node
  unsent_by_management (RouteSetTestRestricted about) point node =
      unsent_by_route_test test.Restricted (route_about (set_place c point) (destination_place c about)) node
  unsent_by_management other point node = []

  abbrev pub unsent_by_word : Result Management MgmtFault → ℕ → Node WholeQueues → List Notice
  unsent_by_word (Ok word) point node = unsent_by_management word point node
  unsent_by_word (Err fault) point node = []

  -- a link test, answered on the link that it came by (Q.707 §2.2)
  abbrev pub unsent_by_kind : TestKind → (link point : ℕ) → LinkTestValue → Node WholeQueues → List Notice
  unsent_by_kind Test link point its node =
      let answer : Message = test_answer c point its in
      given_up (no_room whole c answer node.queues) (Some link) answer
  unsent_by_kind Acknowledgement link point its node = []

  abbrev pub unsent_by_test : Result LinkTestValue MgmtFault → (link point : ℕ) → Node WholeQueues → List Notice
  unsent_by_test (Ok its) link point node = unsent_by_kind its.kind link point its node
  unsent_by_test (Err fault) link point node = []

  abbrev pub unsent_managing : ℕ → Message → Node WholeQueues → List Notice
  unsent_managing link m node =
      if is_adjacent c (opc_of m)
      then if nat_eq (service_indicator m) testing
      then unsent_by_test (read_link_test m.sif) link (opc_of m) node
      else unsent_by_word (read_management m.sif) (opc_of m) node
      else []

  -- ---- messages that came by a link and were refused here

  -- without a route: transfer-prohibited, unless T8 runs or it has no link (Q.704 §13.2)
  abbrev pub unsent_prohibition : (set destination : ℕ) → Node WholeQueues → List Notice
  unsent_prohibition set destination node =
      if may_tell whole c node && not (is_inhibited set destination node.parts)
      && is_led c (route_message c set destination Prohibited) node.parts
      then unsent (route_message c set destination Prohibited)
      (with_parts node (inhibited c set destination node.parts))
      else []

  abbrev pub unsent_without_route : Option ℕ → ℕ → Node WholeQueues → List Notice
  unsent_without_route (Some destination) link node = unsent_prohibition (set_of c link) destination node
  unsent_without_route None link node = []

  abbrev pub unsent_offering : Option Cause → (is_waiting : Bool) → Option ℕ → ℕ → Message → Node WholeQueues
      → List Notice
  unsent_offering None false None link m node = unsent_without_route (destination_place c (dpc_of m)) link node
  unsent_offering None false (Some its) link m node = []
  unsent_offering None true its link m node = []
  unsent_offering (Some cause) is_waiting its link m node = []

  abbrev pub unsent_transferring : ℕ → Message → Node WholeQueues → List Notice
  unsent_transferring link m node =
      if is_destination c (dpc_of m)
      then unsent_offering (no_room_for whole c m node) (waits c node.parts.holds m)
      (link_of c node.parts (flow_of m)) link m node
      else []

  -- for a user part that isn't here: user part unavailable, where it is told (§11.2.7)
  abbrev pub unsent_unavailable : (origin : ℕ) → Message → Node WholeQueues → List Notice
  unsent_unavailable origin m node =
      if is_unequipped_told whole c origin m node
      then unsent (unavailable c m) (with_parts node (unequipped_counted origin node.parts))
      else []

  abbrev pub unsent_without_user : Option ℕ → Message → Node WholeQueues → List Notice
  unsent_without_user (Some origin) m node =
      if c.user_part_unavailable then unsent_unavailable origin m node else []
  unsent_without_user None m node = []

  abbrev pub unsent_local : Message → Node WholeQueues → List Notice
  unsent_local m node =
      if nat_eq (service_indicator m) sccp || is_user c (service_indicator m)
      then []
      else unsent_without_user (destination_place c (opc_of m)) m node

  abbrev pub unsent_by_message : Discrimination → ℕ → Message → Node WholeQueues → List Notice
  unsent_by_message (whither.Refused fault) link m node = []
  unsent_by_message (whither.Here label) link m node =
      if is_management m then unsent_managing link m node else unsent_local m node
  unsent_by_message (whither.Transfer label) link m node = unsent_transferring link m node

  abbrev pub unsent_by_new : ℕ → Option Message → Node WholeQueues → List Notice
  unsent_by_new link (Some m) node = unsent_by_message (whither_goes c m) link m node
  unsent_by_new link None node = []
