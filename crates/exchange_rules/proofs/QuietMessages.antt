-- Messages that are made here or go to other points: what each rule sends in vain, and how many notices it makes.
use Rattle.exchange_rules.proofs.Basics.{◌||◌, ap, ◌++◌, ◌≤◌, Bool, Err, List, None, Ok, Option, Result, Some, [], arith, false, length, nat_eq, nat_lt, not, refl, true, ℕ, ◌&&◌, ◌+◌, ◌∷◌, ◌≡◌, if◌then◌else◌}
use Rattle.exchange_rules.proofs.Definitions.{is_led, ask, pass_test, passes_test, is_outstanding, LinkTestValue, MgmtFault, TestKind, Acknowledgement, Test, Owed, owed, Heard, RouteTest, status_of, RouteStatus, Allowed, Prohibited, Restricted, Configuration, Message, dpc_of, opc_of, flow_of, is_management, service_indicator, Cause, Outcome, Handled, Held, Ignored, Local, Queued, Refused, Discrimination, RelayedValue, relay, returned, destination_place, is_destination, offer, transfer, local, sccp, submit, submit_to, whither_goes, is_user, in_place_of, on_unitdata, own_of, relay_by, return_outcome, send_udts, waits, forced, freed, held_by_rerouting, on_changeback_acknowledgement, prohibited_test, restricted_test, route_message, timed_status, with_status_heard, send_each, do_kind, do_test, test_answer, send, send_anew, send_routed, set_of, no_room, no_room_for, WholeQueues, whole, apply_route_status, ask_again, ask_by, on_route_status, with_next_test, facts, link_of, Done, Node, Parts, Notice, answer, refuse, with_parts, answer_no_route, answer_no_user_part, is_unequipped_told, tell_unavailable, unavailable, unequipped_counted, answered_parts, inhibited, is_inhibited, may_tell, on_route_test, prohibit, send_route_status, tell_each, tell_if, tell_owed, told_parts}
use Rattle.changeback.specs.Rerouting.{rerouted}
use Rattle.signalling_types.specs.declared.cause.Cause.TheVariants as causes
use Rattle.signalling_types.specs.declared.notice.Notice.TheVariants as notices
use Rattle.route_management.specs.Told as hearing
use Rattle.route_management.specs.declared.heard.Heard.TheVariants as hears
use Rattle.exchange_rules.specs.Telling as telling
use Rattle.sccp_relay.specs.Relay as relays
use Rattle.mtp3_codec.specs.declared.discrimination.Discrimination.TheVariants as whither
use Rattle.exchange_rules.proofs.QuietReturns.{passed-quiet}
use Rattle.exchange_rules.proofs.Naming.{Quiet, Sends, any-quiet, both-quiet, both-sends, either-sends, either_done-quiet, either_done-sends, more-does, more-quiet, one-does, same-first, same-quiet, sending}
use Rattle.exchange_rules.specs.GivingUp.{given_up, unsent, unsent_anew, unsent_by_kind, unsent_by_route_test, unsent_by_test, unsent_local, unsent_offering, unsent_status, unsent_transferring, unsent_unavailable, unsent_without_route, unsent_without_user}
use Rattle.exchange_rules.specs.GivingUpEvents.{unsent_asking, unsent_asking_again, unsent_route_test, unsent_telling}

module _ (c : Configuration) where
  -- ---- management goes out

  quiet-sends : (k j : ℕ) (n m : Node WholeQueues) → k ≤ j → Quiet k n m → Sends [] j n m
  quiet-sends k j n m l a = more-does (sending []) k j n m l a

  vain-sends : (cause : Cause) (m : Message) (n o : Node WholeQueues) → o.parts ≡ telling.unsent cause m n.parts → Sends (notices.Unsent cause (dpc_of m) ∷ []) 1 n o
  vain-sends cause m n o e = one-does (sending (notices.Unsent cause (dpc_of m) ∷ [])) (notices.Unsent cause (dpc_of m)) n o refl refl refl refl
      (ap (λ (p : Parts). p.notices) e) (ap (λ (p : Parts). p.times_lost) e) (ap (λ (p : Parts). p.times_late) e) (ap (λ (p : Parts). p.messages_lost) e) (ap (λ (p : Parts). p.times_broken) e)

  pub send-sends : (room : Option Cause) (link : Option ℕ) (m : Message) (n : Node WholeQueues) → Sends (given_up room link m) 1 n (send whole c room link m n)
  send-sends (Some cause) link m n = vain-sends cause m n _ refl
  send-sends None None m n = vain-sends causes.NoRoute m n _ refl
  send-sends None (Some link) m n = quiet-sends 0 1 n _ (omega arith) (same-quiet n _ refl refl refl refl refl)

  pub routed-sends : (m : Message) (n : Node WholeQueues) → Sends (unsent c m n) 1 n (send_routed whole c m n)
  routed-sends m n = send-sends (no_room whole c m n.queues) (link_of c n.parts (flow_of m)) m n

  -- after a change of parts that notes nothing
  pub changed-sends : (us : List Notice) (p : Parts) (n o : Node WholeQueues) → p.notices ≡ n.parts.notices → p.times_lost ≡ n.parts.times_lost → p.times_late ≡ n.parts.times_late
      → p.messages_lost ≡ n.parts.messages_lost → p.times_broken ≡ n.parts.times_broken → Sends us 1 (with_parts n p) o → Sends us 1 n o
  changed-sends us p n o e f g h i a = same-first (sending us) 1 n (with_parts n p) o e f g h i a

  pub anew-sends : (ms : List Message) (n : Node WholeQueues) → Sends (unsent_anew c ms n) (length ms) n (send_each whole c ms n)
  anew-sends [] n = any-quiet 0 n
  anew-sends (m ∷ ms) n =
      let one : Node WholeQueues = send_anew whole c m n in
      let link : Option ℕ = link_of c n.parts (flow_of m) in
      more-does (sending (given_up None link m ++ unsent_anew c ms one)) (1 + length ms) (length (m ∷ ms)) n _ (omega arith)
      (both-sends (given_up None link m) (unsent_anew c ms one) 1 (length ms) n one _ (send-sends None link m n) (anew-sends ms one))

  -- ---- what adjacent points are told

  tell-sends : (o : Owed) (n : Node WholeQueues) → Sends (unsent c (route_message c o.set o.destination o.status) (with_parts n (told_parts c o n.parts))) 1 n (telling.tell whole c o n)
  tell-sends o n = changed-sends _ (told_parts c o n.parts) n _ refl refl refl refl refl (routed-sends (route_message c o.set o.destination o.status) (with_parts n (told_parts c o n.parts)))

  tell_each-sends : (os : List Owed) (n : Node WholeQueues) → Sends (unsent_telling c os n) (length os) n (tell_each whole c os n)
  tell_each-sends [] n = any-quiet 0 n
  tell_each-sends (o ∷ os) n =
      let one : Node WholeQueues = tell_if whole c o n in
      let its : List Notice = unsent c (route_message c o.set o.destination o.status) (with_parts n (told_parts c o n.parts)) in
      let here : List Notice = if may_tell whole c n then its else [] in
      more-does (sending (here ++ unsent_telling c os one)) (1 + length os) (length (o ∷ os)) n _ (omega arith)
      (both-sends here (unsent_telling c os one) 1 (length os) n one _ (either-sends its [] 1 (may_tell whole c n) n (telling.tell whole c o n) n (tell-sends o n) (any-quiet 1 n)) (tell_each-sends os one))

  pub tell_owed-sends : (n : Node WholeQueues) → Sends (unsent_telling c (owed (facts c n.parts) n.parts.told) n) (length (owed (facts c n.parts) n.parts.told)) n (tell_owed whole c n)
  unfolding tell_owed
  tell_owed-sends n = tell_each-sends (owed (facts c n.parts) n.parts.told) n

  prohibit-sends : (set destination : ℕ) (n : Node WholeQueues)
      → Sends (unsent c (route_message c set destination Prohibited) (with_parts n (inhibited c set destination n.parts))) 1 n (prohibit whole c set destination n)
  prohibit-sends set destination n = changed-sends _ (inhibited c set destination n.parts) n _ refl refl refl refl refl (routed-sends (route_message c set destination Prohibited) (with_parts n (inhibited c set destination n.parts)))

  without_route-sends : (destination : Option ℕ) (link : ℕ) (n : Node WholeQueues) → Sends (unsent_without_route c destination link n) 1 n (answer_no_route whole c (Some link) destination n)
  without_route-sends (Some destination) link n =
      let set : ℕ = set_of c link in
      either-sends _ [] 1 (may_tell whole c n && not (is_inhibited set destination n.parts) && is_led c (route_message c set destination Prohibited) n.parts) n (prohibit whole c set destination n) n (prohibit-sends set destination n) (any-quiet 1 n)
  without_route-sends None link n = any-quiet 1 n

  tell_unavailable-sends : (origin : ℕ) (m : Message) (n : Node WholeQueues) → Sends (unsent_unavailable c origin m n) 1 n (tell_unavailable whole c origin m n)
  tell_unavailable-sends origin m n =
      let next : Node WholeQueues = with_parts n (unequipped_counted origin n.parts) in
      changed-sends _ (unequipped_counted origin n.parts) n _ refl refl refl refl refl
      (either-sends (unsent c (unavailable c m) next) [] 1 (is_unequipped_told whole c origin m n) next (send_routed whole c (unavailable c m) next) next (routed-sends (unavailable c m) next) (any-quiet 1 next))

  without_user-sends : (origin : Option ℕ) (link : ℕ) (m : Message) (n : Node WholeQueues) → Sends (unsent_without_user c origin m n) 1 n (answer_no_user_part whole c (Some link) origin m n)
  without_user-sends (Some origin) link m n =
      either-sends (unsent_unavailable c origin m n) [] 1 c.user_part_unavailable n (tell_unavailable whole c origin m n) n (tell_unavailable-sends origin m n) (any-quiet 1 n)
  without_user-sends None link m n = any-quiet 1 n

  status-sends : (status : Option RouteStatus) (set destination : ℕ) (n : Node WholeQueues) → Sends (unsent_status c status set destination n) 1 n (send_route_status whole c status set destination n)
  status-sends (Some status) set destination n =
      let m : Message = route_message c set destination status in
      let next : Node WholeQueues = with_parts n (answered_parts set destination status n.parts) in
      either-sends (unsent c m next) [] 1 (is_led c m n.parts) n (send_routed whole c m next) n
      (changed-sends _ (answered_parts set destination status n.parts) n _ refl refl refl refl refl (routed-sends m next)) (any-quiet 1 n)
  status-sends None set destination n = any-quiet 1 n

  pub on_route_test-sends : (test : RouteTest) (route : Result (ℕ × ℕ) Outcome) (n : Node WholeQueues) → Sends (unsent_by_route_test c test route n) 1 n (on_route_test whole c test route n).left
  on_route_test-sends test (Ok (set, destination)) n =
      let status : Option RouteStatus = hearing.answer_to_test (facts c n.parts) n.parts.told set destination test in
      either_done-sends [] (unsent_status c status set destination n) 1 (hearing.is_own_point n.parts.told set destination) n (answer Ignored n)
      (answer Handled (send_route_status whole c status set destination n)) (any-quiet 1 n) (status-sends status set destination n)
  on_route_test-sends test (Err outcome) n = any-quiet 1 n

  rerouting-quiet : (destination : ℕ) (selections : List ℕ) (n : Node WholeQueues) (p : Parts) → p.notices ≡ n.parts.notices → p.times_lost ≡ n.parts.times_lost → p.times_late ≡ n.parts.times_late
      → p.messages_lost ≡ n.parts.messages_lost → p.times_broken ≡ n.parts.times_broken → Quiet 0 n (with_parts n (held_by_rerouting c destination selections p))
  rerouting-quiet destination [] n p e f g h i = same-quiet n _ e f g h i
  rerouting-quiet destination (sls ∷ others) n p e f g h i = same-quiet n _ e f g h i

  heard-quiet : (status : RouteStatus) (set destination : ℕ) (n : Node WholeQueues) → Quiet 0 n (with_parts n (with_status_heard c set destination status n.parts))
  heard-quiet Prohibited set destination n = same-quiet n _ refl refl refl refl refl
  heard-quiet Restricted set destination n =
      let timed : Parts = record n.parts { timers = timed_status c set destination Restricted n.parts.timers } in
      let next : Parts = forced c set destination Restricted timed in
      rerouting-quiet destination (rerouted (facts c timed) (facts c next) destination) n next refl refl refl refl refl
  heard-quiet Allowed set destination n =
      let timed : Parts = record n.parts { timers = timed_status c set destination Allowed n.parts.timers } in
      let next : Parts = forced c set destination Allowed timed in
      rerouting-quiet destination (rerouted (facts c timed) (facts c next) destination) n next refl refl refl refl refl

  apply_route_status-quiet : (x : Heard) (set destination : ℕ) (status : RouteStatus) (n : Node WholeQueues) → Quiet 0 n (apply_route_status whole c x set destination status n).left
  apply_route_status-quiet hears.Ignored set destination status n = any-quiet 0 n
  apply_route_status-quiet hears.Unchanged set destination status n = any-quiet 0 n
  apply_route_status-quiet hears.Changed set destination status n = heard-quiet status set destination n

  pub on_route_status-quiet : (status : RouteStatus) (route : Result (ℕ × ℕ) Outcome) (n : Node WholeQueues) → Quiet 0 n (on_route_status whole c status route n).left
  on_route_status-quiet status (Ok (set, destination)) n =
      apply_route_status-quiet (hearing.heard (facts c n.parts) n.parts.told set destination status) set destination status n
  on_route_status-quiet status (Err outcome) n = any-quiet 0 n

  ask-sends : (m : Message) (set destination : ℕ) (n : Node WholeQueues) → Sends (unsent_route_test c m set destination n) 1 n (ask whole c m set destination n)
  ask-sends m set destination n =
      let next : Node WholeQueues = with_parts n (with_next_test whole c set destination n.parts) in
      changed-sends _ (with_next_test whole c set destination n.parts) n _ refl refl refl refl refl
      (either-sends (unsent c m next) [] 1 (is_led c m n.parts) next (send_routed whole c m next) next (routed-sends m next) (any-quiet 1 next))

  ask_by-sends : (status : Option RouteStatus) (set destination : ℕ) (n : Node WholeQueues) → Sends (unsent_asking c status set destination n) 1 n (ask_by whole c status set destination n)
  ask_by-sends (Some Prohibited) set destination n = ask-sends (prohibited_test whole c set destination) set destination n
  ask_by-sends (Some Restricted) set destination n = ask-sends (restricted_test whole c set destination) set destination n
  ask_by-sends (Some Allowed) set destination n = any-quiet 1 n
  ask_by-sends None set destination n = any-quiet 1 n

  pub ask_again-sends : (set destination : ℕ) (n : Node WholeQueues) → Sends (unsent_asking_again c set destination n) 1 n (ask_again whole c set destination n)
  ask_again-sends set destination n =
      let status : Option RouteStatus = status_of (facts c n.parts) destination set in
      either-sends (unsent_asking c status set destination n) [] 1 (nat_lt set (length c.sets) && nat_lt destination (length c.destinations)) n (ask_by whole c status set destination n) n
      (ask_by-sends status set destination n) (any-quiet 1 n)

  -- ---- tests and words that complete no changeover

  do_kind-sends : (kind : TestKind) (link point : ℕ) (test : LinkTestValue) (n : Node WholeQueues) → Sends (unsent_by_kind c kind link point test n) 1 n (do_kind whole c kind link point test n).left
  do_kind-sends Test link point test n =
      let m : Message = test_answer c point test in
      send-sends (no_room whole c m n.queues) (Some link) m n
  do_kind-sends Acknowledgement link point test n =
      either_done-quiet 1 (passes_test c link point test n.parts) n (answer Handled (pass_test whole c link n)) (answer Ignored n)
      (more-quiet 0 1 n _ (omega arith) (passed-quiet c link n)) (any-quiet 1 n)

  pub do_test-sends : (r : Result LinkTestValue MgmtFault) (link point : ℕ) (n : Node WholeQueues) → Sends (unsent_by_test c r link point n) 1 n (do_test whole c r link point n).left
  do_test-sends (Err fault) link point n = any-quiet 1 n
  do_test-sends (Ok test) link point n = do_kind-sends test.kind link point test n

  pub answered_back-quiet : (set : Option ℕ) (code : ℕ) (n : Node WholeQueues) → Quiet 0 n (on_changeback_acknowledgement whole c set code n).left
  answered_back-quiet (Some set) code n =
      either_done-quiet 0 (is_outstanding n.parts.codes set code) n (answer Handled (with_parts n (freed set code n.parts))) (answer Ignored n) (same-quiet n _ refl refl refl refl refl) (any-quiet 0 n)
  answered_back-quiet None code n = any-quiet 0 n

  -- ---- messages for other points, and for SCCP

  offer-sends : (room : Option Cause) (waiting : Bool) (its : Option ℕ) (link : ℕ) (m : Message) (n : Node WholeQueues) → Sends (unsent_offering c room waiting its link m n) 1 n (offer whole c room waiting its (Some link) m n).left
  offer-sends (Some cause) waiting its link m n = any-quiet 1 n
  offer-sends None true its link m n = quiet-sends 0 1 n _ (omega arith) (same-quiet n _ refl refl refl refl refl)
  offer-sends None false None link m n = without_route-sends (destination_place c (dpc_of m)) link n
  offer-sends None false (Some its) link m n = quiet-sends 0 1 n _ (omega arith) (same-quiet n _ refl refl refl refl refl)

  pub transfer-sends : (link : ℕ) (m : Message) (n : Node WholeQueues) → Sends (unsent_transferring c link m n) 1 n (transfer whole c (Some link) m n).left
  transfer-sends link m n =
      let its : Option ℕ = link_of c n.parts (flow_of m) in
      let offered : Done WholeQueues = offer whole c (no_room_for whole c m n) (waits c n.parts.holds m) its (Some link) m n in
      either_done-sends (unsent_offering c (no_room_for whole c m n) (waits c n.parts.holds m) its link m n) [] 1 (is_destination c (dpc_of m)) n offered (refuse causes.UnknownDestination n)
      (offer-sends (no_room_for whole c m n) (waits c n.parts.holds m) its link m n) (any-quiet 1 n)

  -- one that came by no link is answered by nothing
  offer-quiet : (room : Option Cause) (waiting : Bool) (link : Option ℕ) (m : Message) (n : Node WholeQueues) → Quiet 1 n (offer whole c room waiting link None m n).left
  offer-quiet (Some cause) waiting link m n = any-quiet 1 n
  offer-quiet None true link m n = more-quiet 0 1 n _ (omega arith) (same-quiet n _ refl refl refl refl refl)
  offer-quiet None false None m n = any-quiet 1 n
  offer-quiet None false (Some link) m n = more-quiet 0 1 n _ (omega arith) (same-quiet n _ refl refl refl refl refl)

  transfer-quiet : (m : Message) (n : Node WholeQueues) → Quiet 1 n (transfer whole c None m n).left
  transfer-quiet m n =
      let link : Option ℕ = link_of c n.parts (flow_of m) in
      let offered : Done WholeQueues = offer whole c (no_room_for whole c m n) (waits c n.parts.holds m) link None m n in
      either_done-quiet 1 (is_destination c (dpc_of m)) n offered (refuse causes.UnknownDestination n)
      (offer-quiet (no_room_for whole c m n) (waits c n.parts.holds m) link m n) (any-quiet 1 n)

  relay-quiet : (v : RelayedValue) (m : Message) (n : Node WholeQueues) → Quiet 1 n (relay_by whole c v m n).left
  relay-quiet relays.Delivered m n = any-quiet 1 n
  relay-quiet (relays.Onward sif) m n = transfer-quiet (in_place_of m sif) n
  relay-quiet (relays.Heard news) m n = more-quiet 0 1 n _ (omega arith) (same-quiet n _ refl refl refl refl refl)
  relay-quiet (relays.Refused cause) m n = any-quiet 1 n

  udts-quiet : (udts : Option (List ℕ)) (m : Message) (n : Node WholeQueues) → Quiet 1 n (send_udts whole c udts m n)
  udts-quiet (Some sif) m n = transfer-quiet (in_place_of m sif) n
  udts-quiet None m n = any-quiet 1 n

  return_outcome-quiet : (o : Outcome) (m : Message) (n : Node WholeQueues) → Quiet 1 n (return_outcome whole c o m n)
  return_outcome-quiet (Refused cause) m n = udts-quiet (returned (own_of c n.parts) n.parts.titles m.sif cause) m n
  return_outcome-quiet (Queued link) m n = any-quiet 1 n
  return_outcome-quiet Held m n = any-quiet 1 n
  return_outcome-quiet Local m n = any-quiet 1 n
  return_outcome-quiet Handled m n = any-quiet 1 n
  return_outcome-quiet Ignored m n = any-quiet 1 n

  unitdata-quiet : (m : Message) (n : Node WholeQueues) → Quiet 2 n (on_unitdata whole c m n).left
  unitdata-quiet m n =
      let d : Done WholeQueues = relay_by whole c (relay (own_of c n.parts) n.parts.titles m.sif) m n in
      both-quiet 1 1 n d.left _ (relay-quiet (relay (own_of c n.parts) n.parts.titles m.sif) m n) (return_outcome-quiet d.outcome m d.left)

  -- a message for a user part, with the link that it came by, or without one
  pub local-sends : (link : ℕ) (m : Message) (n : Node WholeQueues) → Sends (unsent_local c m n) 2 n (local whole c (Some link) m n).left
  local-sends link m n = by (nat_eq (service_indicator m) sccp) (is_user c (service_indicator m))
    where
      origin : Option ℕ
      origin = destination_place c (opc_of m)

      by : (for_sccp for_user : Bool) → Sends (if for_sccp || for_user then [] else unsent_without_user c origin m n) 2 n
          (if for_sccp then on_unitdata whole c m n else (if for_user then answer Local n else refuse causes.NoUserPart (answer_no_user_part whole c (Some link) origin m n))).left
      by true for_user = unitdata-quiet m n
      by false true = any-quiet 2 n
      by false false = more-does (sending (unsent_without_user c origin m n)) 1 2 n _ (omega arith) (without_user-sends origin link m n)

  local-quiet : (m : Message) (n : Node WholeQueues) → Quiet 2 n (local whole c None m n).left
  local-quiet m n =
      let absent : Done WholeQueues = refuse causes.NoUserPart (answer_no_user_part whole c None (destination_place c (opc_of m)) m n) in
      either_done-quiet 2 (nat_eq (service_indicator m) sccp) n (on_unitdata whole c m n) (if is_user c (service_indicator m) then answer Local n else absent) (unitdata-quiet m n)
      (either_done-quiet 2 (is_user c (service_indicator m)) n (answer Local n) absent (any-quiet 2 n) (any-quiet 2 n))

  submit_to-quiet : (d : Discrimination) (m : Message) (n : Node WholeQueues) → Quiet 2 n (submit_to whole c d m n).left
  submit_to-quiet (whither.Refused cause) m n = any-quiet 2 n
  submit_to-quiet (whither.Here label) m n =
      either_done-quiet 2 (is_management m) n (refuse causes.NotInProfile n) (local whole c None m n) (any-quiet 2 n) (local-quiet m n)
  submit_to-quiet (whither.Transfer label) m n =
      either_done-quiet 2 (is_management m) n (refuse causes.NotInProfile n) (transfer whole c None m n) (any-quiet 2 n) (more-quiet 1 2 n _ (omega arith) (transfer-quiet m n))

  pub submit-quiet : (m : Message) (n : Node WholeQueues) → Quiet 2 n (submit whole c m n).left
  submit-quiet m n = submit_to-quiet (whither_goes c m) m n
