-- Whatever happens at a node, what then stands in its queues and in Held stood there before, was made there, is a user
-- message, or came by the frame: so what is fine of all these is fine of all that stands there.
use Rattle.exchange_rules.proofs.Basics.{◌<◌, ◌^◌, ◌%◌, arith, ◌≡◌, ◌&&◌, ℕ, zero, suc, Bool, true, false, not, List, [], ◌∷◌, ◌++◌, Option, Some, None, Result, Ok, Err, refl, ◌∙◌, if◌then◌else◌, nat_eq, nat_lt, length, list_all, and_from as pair}
use Rattle.std.proofs.lemmas.List.Folds.{list_all-append}
use Rattle.exchange_rules.proofs.Definitions.{Message, is_management, dpc_of, flow_of, service_indicator, Configuration, Cause, Management, ExtendedChangeoverOrder, ChangebackDeclaration, RouteSetTestProhibited, RouteSetTestRestricted, LinkTestValue, RelayedValue, relay, returned, FailureReason, LinkStatus, LinkTimer, Transition, Expiry, Facts, RouteStatus, Allowed, Restricted, Prohibited, RouteTest, Heard, Owed, Node, Done, Parts, with_parts, answer, refuse, WholeQueues, whole, queue_on, hold, declaration, test_answer, link_of, no_room, no_room_for, waits, is_destination, destination_place, link_at, down, in_service, set_of, peer_of, point_of, adjacent_of, telling, entry_of, facts, owed}
use Rattle.exchange_rules.proofs.Definitions.{send, send_routed, send_anew, send_each, transfer, offer, route_message, told_parts, tell, tell_if, tell_each, tell_owed, may_tell, inhibited, is_inhibited, is_led, prohibit, answer_no_route, answered_parts, send_route_status, on_route_test, on_route_status, apply_route_status, ask, ask_by, ask_again, with_next_test, prohibited_test, restricted_test, status_of, management_to, own_of, in_place_of, send_udts, return_outcome, relay_by, on_unitdata, answer_no_user_part, is_unequipped_told, tell_unavailable, unavailable, unequipped_counted, UserPartUnavailable, Unequipped, opc_of}
use Rattle.exchange_rules.proofs.Definitions.{is_user, sccp, local, make_unavailable, begin, change_over, fail, begin_by_peer, fail_by_peer, fail_by_order, changeover_order, changing, is_ordered}
use Rattle.exchange_rules.proofs.Definitions.{hold_flows, code_in_use, code_for, take_back_each, loses_flows, advance, moved_on, return_if, begun_anew, is_first_test, test_passed, pass_test, enters, enters_traffic, serve_status, act_by_status, act_by_timer, run_out, acts_on, link_test, awaiting_test, with_test_failed, tests_links, queue_if, send_test, begin_test, repeat_test, test_unanswered, take_step, test_if, on_link_status, begin_outage, hear_outage, end_outage, tells_outage, tells_recovery, Status}
use Rattle.exchange_rules.proofs.Settling.{left-true, right-true}
use Rattle.link.specs.declared.action.Action.{Action}
use Rattle.link.specs.declared.action.Action.TheVariants as act
use Rattle.m2pa_codec.specs.declared.status.LinkStatus.TheVariants as says
use Rattle.route_management.specs.Told as told
use Rattle.route_management.specs.declared.heard.Heard.TheVariants as hears
use Rattle.sccp_relay.specs.Relay as relays
use Rattle.signalling_types.specs.declared.cause.Cause.TheVariants as causes
use Rattle.signalling_types.specs.declared.notice.FailureReason.TheVariants as reasons
use Rattle.signalling_types.specs.declared.outcome.Outcome.{Outcome}
use Rattle.signalling_types.specs.declared.outcome.Outcome.TheVariants.{Queued, Held, Local, Handled, Ignored, Refused}

-- what is made at a node for the points that codes name is fine, and each user message
pub record IsFine (c : Configuration) (fine : Message → Bool) : Type 0 where
  pub adjacent : (set : ℕ) → adjacent_of c set < 2 ^ 14
  pub made : (point : ℕ) (message : Management) → point < 2 ^ 14 → fine (management_to c point message) ≡ true
  pub tested : (point : ℕ) (test : LinkTestValue) → fine (test_answer c point test) ≡ true
  pub probed : (link : ℕ) → fine (link_test c link) ≡ true
  pub users : (m : Message) → is_management m ≡ false → fine m ≡ true

-- R holds of what rules do that no changeover ends by and no frame: parts change, and a message that is fine goes to
-- the end of a queue, or into Held
pub record IsPassing (c : Configuration) (fine : Message → Bool) (R : Node WholeQueues → Node WholeQueues → Type 0) : Type 0 where
  pub same : (n m : Node WholeQueues) → m.queues ≡ n.queues → R n m
  pub both : (n m o : Node WholeQueues) → R n m → R m o → R n o
  pub queued : (link : ℕ) (m : Message) (n : Node WholeQueues) → fine m ≡ true → R n (queue_on whole c link m n)
  pub held : (m : Message) (n : Node WholeQueues) → fine m ≡ true → R n (hold whole m n)

low-bits : (n : ℕ) → n % 2 ^ 14 < 2 ^ 14
low-bits n = omega arith

pub opc-fits : (m : Message) → opc_of m < 2 ^ 14
opc-fits m = low-bits _

module _ (fine : Message → Bool) where
  abbrev pub AllFine : List Message → Type 0
  AllFine ms = list_all fine ms ≡ true

  pub joined : (ms ks : List Message) → AllFine ms → AllFine ks → AllFine (ms ++ ks)
  joined ms ks e g = list_all-append fine ms ks ∙ pair (list_all fine ms) (list_all fine ks) e g

  pub one-more : (ms : List Message) (m : Message) → AllFine ms → fine m ≡ true → AllFine (ms ++ m ∷ [])
  one-more ms m e g = joined ms (m ∷ []) e (pair (fine m) true g refl)

  pub either-all : (b : Bool) (ms ks : List Message) → AllFine ms → AllFine ks → AllFine (if b then ms else ks)
  either-all true ms ks e g = e
  either-all false ms ks e g = g

module _ (c : Configuration) (fine : Message → Bool) (f : IsFine c fine) {R : Node WholeQueues → Node WholeQueues → Type 0} (r : IsPassing c fine R) where
  -- ---- tests decide

  pub stays : (n : Node WholeQueues) → R n n
  stays n = r.same n n refl

  pub either : (b : Bool) (n m o : Node WholeQueues) → R n m → R n o → R n (if b then m else o)
  either true n m o e g = e
  either false n m o e g = g

  pub either_done : (b : Bool) (n : Node WholeQueues) (d e : Done WholeQueues) → R n d.left → R n e.left → R n (if b then d else e).left
  either_done true n d e g k = g
  either_done false n d e g k = k

  -- ---- messages that go out

  pub send-keeps : (room : Option Cause) (link : Option ℕ) (m : Message) (n : Node WholeQueues) → fine m ≡ true → R n (send whole c room link m n)
  send-keeps (Some cause) link m n e = r.same n _ refl
  send-keeps None None m n e = r.same n _ refl
  send-keeps None (Some link) m n e = r.queued link m n e

  pub routed : (m : Message) (n : Node WholeQueues) → fine m ≡ true → R n (send_routed whole c m n)
  routed m n e = send-keeps (no_room whole c m n.queues) (link_of c n.parts (flow_of m)) m n e

  -- with other parts
  routed-with : (m : Message) (n : Node WholeQueues) (p : Parts) → fine m ≡ true → R n (send_routed whole c m (with_parts n p))
  routed-with m n p e = r.both n (with_parts n p) _ (r.same n _ refl) (routed m (with_parts n p) e)

  pub each-sent : (ms : List Message) (n : Node WholeQueues) → AllFine fine ms → R n (send_each whole c ms n)
  each-sent [] n e = stays n
  each-sent (m ∷ ms) n e =
      r.both n (send_anew whole c m n) _ (send-keeps None (link_of c n.parts (flow_of m)) m n (left-true (fine m) (list_all fine ms) e))
      (each-sent ms (send_anew whole c m n) (right-true (fine m) (list_all fine ms) e))

  -- ---- what adjacent points are told

  tell-keeps : (o : Owed) (n : Node WholeQueues) → R n (tell whole c o n)
  tell-keeps o n = routed-with (route_message c o.set o.destination o.status) n (told_parts c o n.parts) (f.made (adjacent_of c o.set) (telling o.status (point_of c o.destination)) (f.adjacent o.set))

  tell_each-keeps : (os : List Owed) (n : Node WholeQueues) → R n (tell_each whole c os n)
  tell_each-keeps [] n = stays n
  tell_each-keeps (o ∷ os) n = r.both n (tell_if whole c o n) _ (either (may_tell whole c n) n (tell whole c o n) n (tell-keeps o n) (stays n)) (tell_each-keeps os (tell_if whole c o n))

  pub tell_owed-keeps : (n : Node WholeQueues) → R n (tell_owed whole c n)
  unfolding tell_owed
  tell_owed-keeps n = tell_each-keeps (owed (facts c n.parts) n.parts.told) n

  no_route-keeps : (link destination : Option ℕ) (n : Node WholeQueues) → R n (answer_no_route whole c link destination n)
  no_route-keeps (Some link) (Some destination) n =
      let set : ℕ = set_of c link in
      either (may_tell whole c n && not (is_inhibited set destination n.parts) && is_led c (route_message c set destination Prohibited) n.parts) n (prohibit whole c set destination n) n
      (routed-with (route_message c set destination Prohibited) n (inhibited c set destination n.parts) (f.made (adjacent_of c set) (telling Prohibited (point_of c destination)) (f.adjacent set))) (stays n)
  no_route-keeps (Some link) None n = stays n
  no_route-keeps None destination n = stays n

  -- whoever sent it
  no_part-keeps : (link origin : Option ℕ) (m : Message) (n : Node WholeQueues) → R n (answer_no_user_part whole c link origin m n)
  no_part-keeps (Some link) (Some origin) m n =
      let next : Node WholeQueues = with_parts n (unequipped_counted origin n.parts) in
      either c.user_part_unavailable n (tell_unavailable whole c origin m n) n
      (r.both n next _ (r.same n next refl)
      (either (is_unequipped_told whole c origin m n) next (send_routed whole c (unavailable c m) next) next
      (routed (unavailable c m) next (f.made (opc_of m) (UserPartUnavailable c.own (service_indicator m) Unequipped) (opc-fits m))) (stays next)))
      (stays n)
  no_part-keeps (Some link) None m n = stays n
  no_part-keeps None origin m n = stays n

  route_status-keeps : (status : Option RouteStatus) (set destination : ℕ) (n : Node WholeQueues) → R n (send_route_status whole c status set destination n)
  route_status-keeps (Some status) set destination n =
      let m : Message = route_message c set destination status in
      let next : Parts = answered_parts set destination status n.parts in
      either (is_led c m n.parts) n (send_routed whole c m (with_parts n next)) n
      (routed-with m n next (f.made (adjacent_of c set) (telling status (point_of c destination)) (f.adjacent set))) (stays n)
  route_status-keeps None set destination n = stays n

  pub test-keeps : (test : RouteTest) (route : Result (ℕ × ℕ) Outcome) (n : Node WholeQueues) → R n (on_route_test whole c test route n).left
  test-keeps test (Ok (set, destination)) n =
      let status : Option RouteStatus = told.answer_to_test (facts c n.parts) n.parts.told set destination test in
      either_done (told.is_own_point n.parts.told set destination) n (answer Ignored n) (answer Handled (send_route_status whole c status set destination n))
      (stays n) (route_status-keeps status set destination n)
  test-keeps test (Err outcome) n = stays n

  status-by : (x : Heard) (set destination : ℕ) (status : RouteStatus) (n : Node WholeQueues) → R n (apply_route_status whole c x set destination status n).left
  status-by hears.Ignored set destination status n = stays n
  status-by hears.Unchanged set destination status n = stays n
  status-by hears.Changed set destination status n = r.same n _ refl

  pub status-keeps : (status : RouteStatus) (route : Result (ℕ × ℕ) Outcome) (n : Node WholeQueues) → R n (on_route_status whole c status route n).left
  status-keeps status (Ok (set, destination)) n = status-by (told.heard (facts c n.parts) n.parts.told set destination status) set destination status n
  status-keeps status (Err outcome) n = stays n

  ask-one : (m : Message) (set destination : ℕ) (n : Node WholeQueues) → fine m ≡ true → R n (ask whole c m set destination n)
  ask-one m set destination n e =
      let next : Node WholeQueues = with_parts n (with_next_test whole c set destination n.parts) in
      r.both n next _ (r.same n next refl) (either (is_led c m n.parts) next (send_routed whole c m next) next (routed m next e) (stays next))

  ask-by : (status : Option RouteStatus) (set destination : ℕ) (n : Node WholeQueues) → R n (ask_by whole c status set destination n)
  ask-by (Some Prohibited) set destination n = ask-one (prohibited_test whole c set destination) set destination n (f.made (adjacent_of c set) (RouteSetTestProhibited (point_of c destination)) (f.adjacent set))
  ask-by (Some Restricted) set destination n = ask-one (restricted_test whole c set destination) set destination n (f.made (adjacent_of c set) (RouteSetTestRestricted (point_of c destination)) (f.adjacent set))
  ask-by (Some Allowed) set destination n = stays n
  ask-by None set destination n = stays n

  pub ask-keeps : (set destination : ℕ) (n : Node WholeQueues) → R n (ask_again whole c set destination n)
  ask-keeps set destination n =
      let status : Option RouteStatus = status_of (facts c n.parts) destination set in
      either (nat_lt set (length c.sets) && nat_lt destination (length c.destinations)) n (ask_by whole c status set destination n) n (ask-by status set destination n) (stays n)

  -- ---- messages for other points, and SCCP

  offer-keeps : (room : Option Cause) (waiting : Bool) (link from : Option ℕ) (m : Message) (n : Node WholeQueues) → fine m ≡ true → R n (offer whole c room waiting link from m n).left
  offer-keeps (Some cause) waiting link from m n e = stays n
  offer-keeps None true link from m n e = r.held m n e
  offer-keeps None false None from m n e = no_route-keeps from (destination_place c (dpc_of m)) n
  offer-keeps None false (Some link) from m n e = r.queued link m n e

  pub transfer-keeps : (from : Option ℕ) (m : Message) (n : Node WholeQueues) → fine m ≡ true → R n (transfer whole c from m n).left
  transfer-keeps from m n e =
      let waiting : Bool = waits c n.parts.holds m in
      let link : Option ℕ = link_of c n.parts (flow_of m) in
      either_done (is_destination c (dpc_of m)) n (offer whole c (no_room_for whole c m n) waiting link from m n) (refuse causes.UnknownDestination n)
      (offer-keeps (no_room_for whole c m n) waiting link from m n e) (stays n)

  udts-keeps : (udts : Option (List ℕ)) (m : Message) (n : Node WholeQueues) → is_management m ≡ false → R n (send_udts whole c udts m n)
  udts-keeps (Some sif) m n e = transfer-keeps None (in_place_of m sif) n (f.users (in_place_of m sif) e)
  udts-keeps None m n e = stays n

  return-keeps : (outcome : Outcome) (m : Message) (n : Node WholeQueues) → is_management m ≡ false → R n (return_outcome whole c outcome m n)
  return-keeps (Refused cause) m n e = udts-keeps (returned (own_of c n.parts) n.parts.titles m.sif cause) m n e
  return-keeps (Queued link) m n e = stays n
  return-keeps Held m n e = stays n
  return-keeps Local m n e = stays n
  return-keeps Handled m n e = stays n
  return-keeps Ignored m n e = stays n

  relay-keeps : (becomes : RelayedValue) (m : Message) (n : Node WholeQueues) → is_management m ≡ false → R n (relay_by whole c becomes m n).left
  relay-keeps relays.Delivered m n e = stays n
  relay-keeps (relays.Onward sif) m n e = transfer-keeps None (in_place_of m sif) n (f.users (in_place_of m sif) e)
  relay-keeps (relays.Heard news) m n e = r.same n _ refl
  relay-keeps (relays.Refused cause) m n e = stays n

  unitdata-keeps : (m : Message) (n : Node WholeQueues) → is_management m ≡ false → R n (on_unitdata whole c m n).left
  unitdata-keeps m n e =
      let d : Done WholeQueues = relay_by whole c (relay (own_of c n.parts) n.parts.titles m.sif) m n in
      r.both n d.left _ (relay-keeps (relay (own_of c n.parts) n.parts.titles m.sif) m n e) (return-keeps d.outcome m d.left e)

  pub local-keeps : (from : Option ℕ) (m : Message) (n : Node WholeQueues) → is_management m ≡ false → R n (local whole c from m n).left
  local-keeps from m n e =
      let origin : Option ℕ = destination_place c (opc_of m) in
      let absent : Done WholeQueues = refuse causes.NoUserPart (answer_no_user_part whole c from origin m n) in
      either_done (nat_eq (service_indicator m) sccp) n (on_unitdata whole c m n) (if is_user c (service_indicator m) then answer Local n else absent) (unitdata-keeps m n e)
      (either_done (is_user c (service_indicator m)) n (answer Local n) absent (stays n) (no_part-keeps from origin m n))

  -- ---- a link fails, and its changeover goes on and ends

  unavailable-same : (served : Bool) (link : ℕ) (why : FailureReason) (n : Node WholeQueues) → (make_unavailable whole c served link why n).queues ≡ n.queues
  unavailable-same true link why n = refl
  unavailable-same false link why n = refl

  begin-keeps : (ordered : Bool) (link : ℕ) (n : Node WholeQueues) → R n (begin whole c ordered link n)
  begin-keeps true link n = routed-with (changeover_order c link (whole.last_accepted n.queues link)) n (changing c true link n.parts) (f.made (peer_of c link) (ExtendedChangeoverOrder (entry_of c link).slc (whole.last_accepted n.queues link)) (f.adjacent (set_of c link)))
  begin-keeps false link n = r.same n _ refl

  over-keeps : (served : Bool) (link : ℕ) (n : Node WholeQueues) → R n (change_over whole c served link n)
  over-keeps true link n = begin-keeps (is_ordered c link n.parts) link n
  over-keeps false link n = stays n

  pub fail-keeps : (link : ℕ) (why : FailureReason) (n : Node WholeQueues) → R n (fail whole c link why n)
  fail-keeps link why n =
      let gone : Node WholeQueues = make_unavailable whole c (in_service n.parts link) link why n in
      r.both n gone _ (r.same n gone (unavailable-same (in_service n.parts link) link why n)) (over-keeps (in_service n.parts link) link gone)

  peer-keeps : (served : Bool) (link : ℕ) (n : Node WholeQueues) → R n (begin_by_peer whole c served link n)
  peer-keeps true link n = r.same n _ refl
  peer-keeps false link n = stays n

  pub by_order-keeps : (link : ℕ) (n : Node WholeQueues) → R n (fail_by_order whole c link n)
  by_order-keeps link n =
      let gone : Node WholeQueues = make_unavailable whole c (in_service n.parts link) link reasons.Changeover n in
      either (down n.parts link) n n (fail_by_peer whole c link n) (stays n)
      (r.both n gone _ (r.same n gone (unavailable-same (in_service n.parts link) link reasons.Changeover n)) (peer-keeps (in_service n.parts link) link gone))

  -- ---- a link takes its flows back

  hold-keeps : (before after : Facts) (code : Option ℕ) (link other : ℕ) (n : Node WholeQueues) → R n (hold_flows whole c before after code link other n)
  hold-keeps before after (Some code) link other n =
      let used : Node WholeQueues = with_parts n (code_in_use c (set_of c link) code n.parts) in
      let declared : Node WholeQueues = queue_on whole c other (declaration c link code) used in
      let made : fine (declaration c link code) ≡ true = f.made (peer_of c link) (ChangebackDeclaration (entry_of c link).slc code) (f.adjacent (set_of c link)) in
      r.both n declared _ (r.both n used declared (r.same n used refl) (r.queued other (declaration c link code) used made)) (r.same declared _ refl)
  hold-keeps before after None link other n = r.same n _ refl

  back_each-keeps : (before after : Facts) (link many : ℕ) (n : Node WholeQueues) → R n (take_back_each whole c before after link many n)
  unfolding take_back_each
  back_each-keeps before after link zero n = stays n
  back_each-keeps before after link (suc other) n =
      let one : Node WholeQueues = take_back_each whole c before after link other n in
      r.both n one _ (back_each-keeps before after link other n)
      (either (loses_flows c before after other link) one (hold_flows whole c before after (code_for whole c link other one) link other one) one
      (hold-keeps before after (code_for whole c link other one) link other one) (stays one))

  return_if-keeps : (entered : Bool) (link : ℕ) (before : Facts) (n : Node WholeQueues) → R n (return_if whole c entered link before n)
  return_if-keeps true link before n = back_each-keeps before (facts c n.parts) link (length c.links) n
  return_if-keeps false link before n = stays n

  pub pass_test-keeps : (link : ℕ) (n : Node WholeQueues) → R n (pass_test whole c link n)
  pass_test-keeps link n =
      let passed : Node WholeQueues = with_parts n (begun_anew (is_first_test link n.parts) c link n.parts (test_passed c link n.parts)) in
      r.both n passed _ (r.same n passed refl) (return_if-keeps (is_first_test link n.parts) link (facts c n.parts) passed)

  -- ---- tests of links

  queue_if-keeps : (room : Option Cause) (link : ℕ) (n : Node WholeQueues) → R n (queue_if whole c room link (link_test c link) n)
  queue_if-keeps (Some cause) link n = stays n
  queue_if-keeps None link n = r.queued link (link_test c link) n (f.probed link)

  send_test-keeps : (link : ℕ) (n : Node WholeQueues) → R n (send_test whole c link n)
  send_test-keeps link n =
      let next : Node WholeQueues = with_parts n (awaiting_test c link n.parts) in
      r.both n next _ (r.same n next refl) (queue_if-keeps (no_room whole c (link_test c link) n.queues) link next)

  pub begin_test-keeps : (link : ℕ) (n : Node WholeQueues) → R n (begin_test whole c link n)
  begin_test-keeps link n = either (tests_links c && in_service n.parts link) n (send_test whole c link n) n (send_test-keeps link n) (stays n)

  repeat_test-keeps : (again : Bool) (link : ℕ) (n : Node WholeQueues) → R n (repeat_test whole c again link n)
  repeat_test-keeps true link n = fail-keeps link reasons.Test n
  repeat_test-keeps false link n =
      let failed : Node WholeQueues = with_parts n (with_test_failed true link n.parts) in
      r.both n failed _ (r.same n failed refl) (begin_test-keeps link failed)

  pub test_unanswered-keeps : (link : ℕ) (n : Node WholeQueues) → R n (test_unanswered whole c link n)
  test_unanswered-keeps link n =
      let again : Bool = (link_at n.parts link).test_failed in
      either (in_service n.parts link) n (repeat_test whole c again link n) n (repeat_test-keeps again link n) (stays n)

  test_if-keeps : (entered : Bool) (link : ℕ) (n : Node WholeQueues) → R n (test_if whole c entered link n)
  test_if-keeps true link n = begin_test-keeps link n
  test_if-keeps false link n = stays n

  pub advance-keeps : (link : ℕ) (step : Transition) (n : Node WholeQueues) → R n (advance whole c link step n)
  advance-keeps link step n =
      let went : Node WholeQueues = with_parts n (moved_on c link step n.parts) in
      let took : Node WholeQueues = take_step whole c link step n in
      r.both n took _ (r.both n went took (r.same n went refl) (return_if-keeps (enters_traffic link step n.parts) link (facts c n.parts) went))
      (test_if-keeps (enters link step n.parts) link took)

  -- ---- frames, and the timers of a link

  serve-keeps : (link : ℕ) (status : LinkStatus) (n : Node WholeQueues) → R n (serve_status whole c link status n)
  serve-keeps link says.Alignment n = stays n
  serve-keeps link says.ProvingNormal n = stays n
  serve-keeps link says.ProvingEmergency n = stays n
  serve-keeps link says.Ready n = stays n
  serve-keeps link says.ProcessorOutage n = stays n
  serve-keeps link says.ProcessorRecovered n = stays n
  serve-keeps link says.Busy n = r.same n _ refl
  serve-keeps link says.BusyEnded n = r.same n _ refl
  serve-keeps link says.OutOfService n = stays n

  by_status-keeps : (a : Action) (link : ℕ) (status : LinkStatus) (n : Node WholeQueues) → R n (act_by_status whole c a link status n).left
  by_status-keeps act.Ignored link status n = stays n
  by_status-keeps act.Fail link status n = fail-keeps link reasons.Status n
  by_status-keeps (act.Go step) link status n =
      let next : Node WholeQueues = advance whole c link step n in
      r.both n next _ (advance-keeps link step n) (either step.serve next (serve_status whole c link status next) next (serve-keeps link status next) (stays next))

  hear_outage-keeps : (out : Bool) (link : ℕ) (n : Node WholeQueues) → R n (if out then n else begin_outage whole c link n)
  hear_outage-keeps true link n = stays n
  hear_outage-keeps false link n = r.same n _ refl

  told-keeps : (out back : Bool) (link : ℕ) (status : LinkStatus) (n : Node WholeQueues)
      → R n (if out then answer Handled (hear_outage whole c link n) else if back then answer Handled (end_outage whole c link n)
      else act_by_status whole c (acts_on (link_at n.parts link) (Status status)) link status n).left
  told-keeps true back link status n = hear_outage-keeps (link_at n.parts link).peer_outage link n
  told-keeps false true link status n = r.same n _ refl
  told-keeps false false link status n = by_status-keeps (acts_on (link_at n.parts link) (Status status)) link status n

  pub link_status-keeps : (link : ℕ) (status : LinkStatus) (n : Node WholeQueues) → R n (on_link_status whole c link status n).left
  link_status-keeps link status n = told-keeps (tells_outage c link status n.parts) (tells_recovery link status n.parts) link status n

  by_timer-keeps : (a : Action) (link : ℕ) (n : Node WholeQueues) → R n (act_by_timer whole c a link n)
  by_timer-keeps act.Ignored link n = stays n
  by_timer-keeps act.Fail link n = fail-keeps link reasons.Timer n
  by_timer-keeps (act.Go step) link n = advance-keeps link step n

  pub run_out-keeps : (link : ℕ) (timer : LinkTimer) (n : Node WholeQueues) → R n (run_out whole c link timer n)
  run_out-keeps link timer n = by_timer-keeps (acts_on (link_at n.parts link) (Expiry timer)) link n
