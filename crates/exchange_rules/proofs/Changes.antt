-- Rules that make only management, or change no queue: there are as many user messages after each as before.
use Rattle.exchange_rules.proofs.Basics.{Bool, Err, List, None, Ok, Option, Result, Some, [], false, length, nat_lt, not, refl, suc, true, zero, ℕ, ◌&&◌, ◌∙◌, ◌∷◌, ◌≡◌, if◌then◌else◌}
use Rattle.exchange_rules.proofs.Definitions.{is_led, ask, enters_traffic, is_first_test, pass_test, begun_anew, is_outstanding, managements_of, acts_on, Action, Expiry, Status, LinkTimer, Transition, Queue, appended, LinkStatus, LinkTestValue, MgmtFault, TestKind, Acknowledgement, Test, Management, ChangebackDeclaration, ExtendedChangeoverOrder, RouteSetTestProhibited, RouteSetTestRestricted, Owed, owed, Heard, RouteTest, Facts, status_of, RouteStatus, Allowed, Prohibited, Restricted, Configuration, Message, flow_of, is_management, Cause, FailureReason, FrameFault, Outcome, Handled, Ignored, code_for, code_in_use, declaration, freed, hold_flows, loses_flows, on_changeback_acknowledgement, take_back_each, fail_by_order, send_each, standing, begin, begin_by_peer, change_over, changing, fail, fail_by_peer, is_ordered, make_unavailable, leave_aside, down, in_service, is_link, link_at, do_kind, do_test, test_answer, management_to, send, send_anew, send_routed, activate, association_down, deactivate, end_association, fail_if_up, set_active, adjacent_of, entry_of, peer_of, point_of, set_of, no_room, queue_on, WholeQueues, queue_at, whole, apply_route_status, ask_again, ask_by, on_route_status, with_next_test, facts, link_of, Done, Node, answer, refuse, with_parts, act_by_status, act_by_timer, advance, enters, moved_on, on_link_status, return_if, run_out, serve_status, answer_no_route, answered_parts, inhibited, is_inhibited, may_tell, on_route_test, prohibit, send_route_status, tell_each, tell_if, tell_owed, telling, told_parts, answer_no_user_part, is_unequipped_told, tell_unavailable, unavailable, unequipped_counted, UserPartUnavailable, Unequipped, opc_of, service_indicator, tells_outage, tells_recovery, begin_outage, hear_outage, end_outage, take_step, test_if, queue_if, send_test, begin_test, repeat_test, test_unanswered, with_test_failed, awaiting_test, link_test, tests_links, passes_test, test_passed, release_bar, is_barred, unbarred, changeover_of, asking, is_late, order_late, order_each, order_all, late_by}
use Rattle.exchange_rules.proofs.OwnManagement.{made-management, answer-management, test-management}
use Rattle.exchange_rules.proofs.Tallies.{no-user-behind, queue-same}
use Rattle.link.specs.declared.action.Action.TheVariants as act
use Rattle.signalling_types.specs.declared.cause.Cause.TheVariants as causes
use Rattle.signalling_types.specs.declared.notice.FrameFault.TheVariants as faults
use Rattle.route_management.specs.Told as hearing
use Rattle.route_management.specs.declared.heard.Heard.TheVariants as hears
use Rattle.signalling_types.specs.declared.notice.FailureReason.TheVariants as reasons
use Rattle.m2pa_codec.specs.declared.status.LinkStatus.TheVariants as says
use Rattle.exchange_rules.specs.Telling as telling
use Rattle.signalling_types.specs.declared.outcome.Outcome.TheVariants as outcome

-- how many stand in a node
abbrev pub stands : (Message → Bool) → Node WholeQueues → ℕ
stands of n = standing of n.queues

module _ (of : Message → Bool) (c : Configuration) where
  -- ---- a test decides

  pub either-stand : (b : Bool) (n m : Node WholeQueues) (k : ℕ) → stands of n ≡ k → stands of m ≡ k → stands of (if b then n else m) ≡ k
  either-stand true n m k e f = e
  either-stand false n m k e f = f

  pub either_done-stand : (b : Bool) (d e : Done WholeQueues) (k : ℕ) → stands of d.left ≡ k → stands of e.left ≡ k → stands of (if b then d else e).left ≡ k
  either_done-stand true d e k f g = f
  either_done-stand false d e k f g = g

  -- ---- management goes out

  queued-stand : (link : ℕ) (m : Message) (n : Node WholeQueues) → is_management m ≡ true → stands of (queue_on whole c link m n) ≡ stands of n
  queued-stand link m n e =
      let q : Queue = queue_at n.queues link in
      queue-same of n.queues link (appended q m) (no-user-behind of q.confirmed q.all m e)

  send-stand : (room : Option Cause) (link : Option ℕ) (m : Message) (n : Node WholeQueues) → is_management m ≡ true → stands of (send whole c room link m n) ≡ stands of n
  send-stand (Some cause) link m n e = refl
  send-stand None None m n e = refl
  send-stand None (Some link) m n e = queued-stand link m n e

  pub routed-stand : (m : Message) (n : Node WholeQueues) → is_management m ≡ true → stands of (send_routed whole c m n) ≡ stands of n
  routed-stand m n e = send-stand (no_room whole c m n.queues) (link_of c n.parts (flow_of m)) m n e

  pub made-stand : (point : ℕ) (message : Management) (n : Node WholeQueues) → stands of (send_routed whole c (management_to c point message) n) ≡ stands of n
  made-stand point message n = routed-stand (management_to c point message) n (made-management c point message)

  -- what a completion queues again
  pub anew-stand : (ms : List Message) (n : Node WholeQueues) → stands of (send_each whole c (managements_of ms) n) ≡ stands of n
  anew-stand [] n = refl
  anew-stand (m ∷ ms) n = by (is_management m) refl (anew-stand ms n) (anew-stand ms (send_anew whole c m n))
    where
      by : (b : Bool) → is_management m ≡ b → stands of (send_each whole c (managements_of ms) n) ≡ stands of n
          → stands of (send_each whole c (managements_of ms) (send_anew whole c m n)) ≡ stands of (send_anew whole c m n)
          → stands of (send_each whole c (if b then m ∷ managements_of ms else managements_of ms) n) ≡ stands of n
      by true e rest more = more ∙ send-stand None (link_of c n.parts (flow_of m)) m n e
      by false e rest more = rest

  -- ---- what adjacent points are told

  tell-stand : (o : Owed) (n : Node WholeQueues) → stands of (telling.tell whole c o n) ≡ stands of n
  tell-stand o n = made-stand (adjacent_of c o.set) (telling.telling o.status (point_of c o.destination)) (with_parts n (told_parts c o n.parts))

  tell_each-stand : (os : List Owed) (n : Node WholeQueues) → stands of (tell_each whole c os n) ≡ stands of n
  tell_each-stand [] n = refl
  tell_each-stand (o ∷ os) n =
      tell_each-stand os (tell_if whole c o n) ∙ either-stand (may_tell whole c n) (telling.tell whole c o n) n (stands of n) (tell-stand o n) refl

  pub tell_owed-stand : (n : Node WholeQueues) → stands of (tell_owed whole c n) ≡ stands of n
  unfolding tell_owed
  tell_owed-stand n = tell_each-stand (owed (facts c n.parts) n.parts.told) n

  prohibit-stand : (set destination : ℕ) (n : Node WholeQueues) → stands of (prohibit whole c set destination n) ≡ stands of n
  prohibit-stand set destination n =
      made-stand (adjacent_of c set) (telling.telling Prohibited (point_of c destination)) (with_parts n (inhibited c set destination n.parts))

  pub answer_no_route-stand : (link destination : Option ℕ) (n : Node WholeQueues) → stands of (answer_no_route whole c link destination n) ≡ stands of n
  answer_no_route-stand (Some link) (Some destination) n =
      let set : ℕ = set_of c link in
      either-stand (may_tell whole c n && not (is_inhibited set destination n.parts) && is_led c (telling.route_message c set destination Prohibited) n.parts) (prohibit whole c set destination n) n (stands of n)
      (prohibit-stand set destination n) refl
  answer_no_route-stand (Some link) None n = refl
  answer_no_route-stand None destination n = refl

  pub answer_no_user_part-stand : (link origin : Option ℕ) (m : Message) (n : Node WholeQueues) → stands of (answer_no_user_part whole c link origin m n) ≡ stands of n
  answer_no_user_part-stand (Some link) (Some origin) m n =
      let next : Node WholeQueues = with_parts n (unequipped_counted origin n.parts) in
      either-stand c.user_part_unavailable (tell_unavailable whole c origin m n) n (stands of n)
      (either-stand (is_unequipped_told whole c origin m n) (send_routed whole c (unavailable c m) next) next (stands of n)
      (made-stand (opc_of m) (UserPartUnavailable c.own (service_indicator m) Unequipped) next) refl) refl
  answer_no_user_part-stand (Some link) None m n = refl
  answer_no_user_part-stand None origin m n = refl

  send_route_status-stand : (status : Option RouteStatus) (set destination : ℕ) (n : Node WholeQueues) → stands of (send_route_status whole c status set destination n) ≡ stands of n
  send_route_status-stand (Some status) set destination n =
      let m : Message = telling.route_message c set destination status in
      let next : Node WholeQueues = with_parts n (answered_parts set destination status n.parts) in
      either-stand (is_led c m n.parts) (send_routed whole c m next) n (stands of n)
      (made-stand (adjacent_of c set) (telling.telling status (point_of c destination)) next) refl
  send_route_status-stand None set destination n = refl

  pub on_route_test-stand : (test : RouteTest) (route : Result (ℕ × ℕ) Outcome) (n : Node WholeQueues) → stands of (on_route_test whole c test route n).left ≡ stands of n
  on_route_test-stand test (Ok (set, destination)) n =
      let status : Option RouteStatus = hearing.answer_to_test (facts c n.parts) n.parts.told set destination test in
      either_done-stand (hearing.is_own_point n.parts.told set destination) (answer Ignored n) (answer Handled (send_route_status whole c status set destination n)) (stands of n)
      refl (send_route_status-stand status set destination n)
  on_route_test-stand test (Err outcome) n = refl

  apply_route_status-stand : (x : Heard) (set destination : ℕ) (status : RouteStatus) (n : Node WholeQueues)
      → stands of (apply_route_status whole c x set destination status n).left ≡ stands of n
  apply_route_status-stand hears.Ignored set destination status n = refl
  apply_route_status-stand hears.Unchanged set destination status n = refl
  apply_route_status-stand hears.Changed set destination status n = refl

  pub on_route_status-stand : (status : RouteStatus) (route : Result (ℕ × ℕ) Outcome) (n : Node WholeQueues) → stands of (on_route_status whole c status route n).left ≡ stands of n
  on_route_status-stand status (Ok (set, destination)) n =
      apply_route_status-stand (hearing.heard (facts c n.parts) n.parts.told set destination status) set destination status n
  on_route_status-stand status (Err outcome) n = refl

  ask-stand : (test : Management) (set destination : ℕ) (n : Node WholeQueues) → stands of (ask whole c (management_to c (adjacent_of c set) test) set destination n) ≡ stands of n
  ask-stand test set destination n =
      let m : Message = management_to c (adjacent_of c set) test in
      let next : Node WholeQueues = with_parts n (with_next_test whole c set destination n.parts) in
      either-stand (is_led c m n.parts) (send_routed whole c m next) next (stands of n) (made-stand (adjacent_of c set) test next) refl

  ask_by-stand : (status : Option RouteStatus) (set destination : ℕ) (n : Node WholeQueues) → stands of (ask_by whole c status set destination n) ≡ stands of n
  ask_by-stand (Some Prohibited) set destination n = ask-stand (RouteSetTestProhibited (point_of c destination)) set destination n
  ask_by-stand (Some Restricted) set destination n = ask-stand (RouteSetTestRestricted (point_of c destination)) set destination n
  ask_by-stand (Some Allowed) set destination n = refl
  ask_by-stand None set destination n = refl

  pub ask_again-stand : (set destination : ℕ) (n : Node WholeQueues) → stands of (ask_again whole c set destination n) ≡ stands of n
  ask_again-stand set destination n =
      let status : Option RouteStatus = status_of (facts c n.parts) destination set in
      either-stand (nat_lt set (length c.sets) && nat_lt destination (length c.destinations)) (ask_by whole c status set destination n) n (stands of n)
      (ask_by-stand status set destination n) refl

  -- ---- links fail

  begin-stand : (ordered : Bool) (link : ℕ) (n : Node WholeQueues) → stands of (begin whole c ordered link n) ≡ stands of n
  begin-stand true link n =
      made-stand (peer_of c link) (ExtendedChangeoverOrder (entry_of c link).slc (whole.last_accepted n.queues link)) (with_parts n (changing c true link n.parts))
  begin-stand false link n = refl

  -- orders go out late
  order_late-stand : (link : ℕ) (n : Node WholeQueues) → stands of (order_late whole c link n) ≡ stands of n
  order_late-stand link n =
      made-stand (peer_of c link) (ExtendedChangeoverOrder (entry_of c link).slc (whole.last_accepted n.queues link)) (with_parts n (asking c link n.parts))

  order_each-stand : (many : ℕ) (n : Node WholeQueues) → stands of (order_each whole c many n) ≡ stands of n
  unfolding order_each
  order_each-stand zero n = refl
  order_each-stand (suc link) n =
      let one : Node WholeQueues = order_each whole c link n in
      either-stand (is_late c link one.parts) (order_late whole c link one) one (stands of n) (order_late-stand link one ∙ order_each-stand link n) (order_each-stand link n)

  order_all-stand : (n : Node WholeQueues) → stands of (order_all whole c n) ≡ stands of n
  order_all-stand n = either-stand c.changeover_by_any_route (order_each whole c (length c.links) n) n (stands of n) (order_each-stand (length c.links) n) refl

  pub late_by-stand : (o : Outcome) (n : Node WholeQueues) → stands of (late_by whole c o n) ≡ stands of n
  late_by-stand (outcome.Refused cause) n = refl
  late_by-stand (outcome.Queued link) n = order_all-stand n
  late_by-stand outcome.Held n = order_all-stand n
  late_by-stand outcome.Local n = order_all-stand n
  late_by-stand outcome.Handled n = order_all-stand n
  late_by-stand outcome.Ignored n = order_all-stand n

  failing-stand : (served : Bool) (link : ℕ) (why : FailureReason) (n : Node WholeQueues)
      → stands of (change_over whole c served link (make_unavailable whole c served link why n)) ≡ stands of n
  failing-stand true link why n =
      let gone : Node WholeQueues = make_unavailable whole c true link why n in
      begin-stand (is_ordered c link gone.parts) link gone
  failing-stand false link why n = refl

  pub fail-stand : (link : ℕ) (why : FailureReason) (n : Node WholeQueues) → stands of (fail whole c link why n) ≡ stands of n
  fail-stand link why n = failing-stand (in_service n.parts link) link why n

  fail_if_up-stand : (link : ℕ) (why : FailureReason) (n : Node WholeQueues) → stands of (fail_if_up whole c link why n) ≡ stands of n
  fail_if_up-stand link why n = either-stand (down n.parts link) n (fail whole c link why n) (stands of n) refl (fail-stand link why n)

  -- a link that fails by its peer's order changes no queue
  by_peer-queues : (served : Bool) (link : ℕ) (n : Node WholeQueues) → (begin_by_peer whole c served link (make_unavailable whole c served link reasons.Changeover n)).queues ≡ n.queues
  by_peer-queues true link n = refl
  by_peer-queues false link n = refl

  by_order-queues : (is_down : Bool) (link : ℕ) (n : Node WholeQueues) → (if is_down then n else fail_by_peer whole c link n).queues ≡ n.queues
  by_order-queues true link n = refl
  by_order-queues false link n = by_peer-queues (in_service n.parts link) link n

  pub fail_by_order-queues : (link : ℕ) (n : Node WholeQueues) → (fail_by_order whole c link n).queues ≡ n.queues
  fail_by_order-queues link n = by_order-queues (down n.parts link) link n

  pub association_down-stand : (link : ℕ) (n : Node WholeQueues) → stands of (association_down whole c link n).left ≡ stands of n
  association_down-stand link n =
      let ended : Done WholeQueues = answer Handled (end_association whole c link (fail_if_up whole c link reasons.Association n)) in
      either_done-stand (is_link n.parts link) (if (link_at n.parts link).association then ended else answer Ignored n) (refuse causes.NoSuchName n) (stands of n)
      (either_done-stand (link_at n.parts link).association ended (answer Ignored n) (stands of n) (fail_if_up-stand link reasons.Association n) refl) refl

  pub activate-stand : (emergency : Bool) (link : ℕ) (n : Node WholeQueues) → stands of (activate whole c emergency link n).left ≡ stands of n
  activate-stand emergency link n = either_done-stand (is_link n.parts link) (answer Handled (set_active whole c true emergency link n)) (refuse causes.NoSuchName n) (stands of n) refl refl

  pub release_bar-stand : (link : ℕ) (n : Node WholeQueues) → stands of (release_bar whole c link n).left ≡ stands of n
  release_bar-stand link n =
      let freed : Done WholeQueues = answer Handled (with_parts n (unbarred link n.parts)) in
      either_done-stand (is_link n.parts link) (if is_barred (changeover_of n.parts link) then freed else answer Ignored n) (refuse causes.NoSuchName n) (stands of n)
      (either_done-stand (is_barred (changeover_of n.parts link)) freed (answer Ignored n) (stands of n) refl refl) refl

  pub deactivate-stand : (link : ℕ) (n : Node WholeQueues) → stands of (deactivate whole c link n).left ≡ stands of n
  deactivate-stand link n =
      either_done-stand (is_link n.parts link) (answer Handled (set_active whole c false false link (fail_if_up whole c link reasons.Operator n))) (refuse causes.NoSuchName n) (stands of n)
      (fail_if_up-stand link reasons.Operator n) refl

  -- ---- links return

  hold_flows-stand : (before after : Facts) (code : Option ℕ) (link other : ℕ) (n : Node WholeQueues) → stands of (hold_flows whole c before after code link other n) ≡ stands of n
  hold_flows-stand before after (Some code) link other n =
      queued-stand other (declaration c link code) (with_parts n (code_in_use c (set_of c link) code n.parts))
      (made-management c (peer_of c link) (ChangebackDeclaration (entry_of c link).slc code))
  hold_flows-stand before after None link other n = refl

  take_back_each-stand : (before after : Facts) (link many : ℕ) (n : Node WholeQueues) → stands of (take_back_each whole c before after link many n) ≡ stands of n
  unfolding take_back_each
  take_back_each-stand before after link zero n = refl
  take_back_each-stand before after link (suc other) n =
      let one : Node WholeQueues = take_back_each whole c before after link other n in
      let code : Option ℕ = code_for whole c link other one in
      either-stand (loses_flows c before after other link) (hold_flows whole c before after code link other one) one (stands of one)
      (hold_flows-stand before after code link other one) refl
      ∙ take_back_each-stand before after link other n

  return-stand : (entered : Bool) (link : ℕ) (before : Facts) (n : Node WholeQueues) → stands of (return_if whole c entered link before n) ≡ stands of n
  return-stand true link before n = take_back_each-stand before (facts c n.parts) link (length c.links) n
  return-stand false link before n = refl

  -- ---- tests of links

  queue_if-stand : (room : Option Cause) (link : ℕ) (n : Node WholeQueues) → stands of (queue_if whole c room link (link_test c link) n) ≡ stands of n
  queue_if-stand (Some cause) link n = refl
  queue_if-stand None link n = queued-stand link (link_test c link) n (test-management c link)

  pub begin_test-stand : (link : ℕ) (n : Node WholeQueues) → stands of (begin_test whole c link n) ≡ stands of n
  begin_test-stand link n =
      either-stand (tests_links c && in_service n.parts link) (send_test whole c link n) n (stands of n)
      (queue_if-stand (no_room whole c (link_test c link) n.queues) link (with_parts n (awaiting_test c link n.parts))) refl

  repeat_test-stand : (again : Bool) (link : ℕ) (n : Node WholeQueues) → stands of (repeat_test whole c again link n) ≡ stands of n
  repeat_test-stand true link n = fail-stand link reasons.Test n
  repeat_test-stand false link n = begin_test-stand link (with_parts n (with_test_failed true link n.parts))

  pub test_unanswered-stand : (link : ℕ) (n : Node WholeQueues) → stands of (test_unanswered whole c link n) ≡ stands of n
  test_unanswered-stand link n =
      let again : Bool = (link_at n.parts link).test_failed in
      either-stand (in_service n.parts link) (repeat_test whole c again link n) n (stands of n) (repeat_test-stand again link n) refl

  test_if-stand : (entered : Bool) (link : ℕ) (n : Node WholeQueues) → stands of (test_if whole c entered link n) ≡ stands of n
  test_if-stand true link n = begin_test-stand link n
  test_if-stand false link n = refl

  pub advance-stand : (link : ℕ) (step : Transition) (n : Node WholeQueues) → stands of (advance whole c link step n) ≡ stands of n
  advance-stand link step n =
      test_if-stand (enters link step n.parts) link (take_step whole c link step n)
      ∙ return-stand (enters_traffic link step n.parts) link (facts c n.parts) (with_parts n (moved_on c link step n.parts))

  -- ---- statuses and timers of links

  serve_status-stand : (link : ℕ) (status : LinkStatus) (n : Node WholeQueues) → stands of (serve_status whole c link status n) ≡ stands of n
  serve_status-stand link says.Busy n = refl
  serve_status-stand link says.BusyEnded n = refl
  serve_status-stand link says.Alignment n = refl
  serve_status-stand link says.ProvingNormal n = refl
  serve_status-stand link says.ProvingEmergency n = refl
  serve_status-stand link says.Ready n = refl
  serve_status-stand link says.ProcessorOutage n = refl
  serve_status-stand link says.ProcessorRecovered n = refl
  serve_status-stand link says.OutOfService n = refl

  act_by_status-stand : (a : Action) (link : ℕ) (status : LinkStatus) (n : Node WholeQueues) → stands of (act_by_status whole c a link status n).left ≡ stands of n
  act_by_status-stand act.Ignored link status n = refl
  act_by_status-stand act.Fail link status n = fail-stand link reasons.Status n
  act_by_status-stand (act.Go step) link status n =
      let moved : Node WholeQueues = advance whole c link step n in
      either-stand step.serve (serve_status whole c link status moved) moved (stands of moved) (serve_status-stand link status moved) refl
      ∙ advance-stand link step n

  hear_outage-stand : (out : Bool) (link : ℕ) (n : Node WholeQueues) → stands of (if out then n else begin_outage whole c link n) ≡ stands of n
  hear_outage-stand true link n = refl
  hear_outage-stand false link n = refl

  pub on_link_status-stand : (link : ℕ) (status : LinkStatus) (n : Node WholeQueues) → stands of (on_link_status whole c link status n).left ≡ stands of n
  on_link_status-stand link status n =
      let back : Done WholeQueues = answer Handled (end_outage whole c link n) in
      let acted : Done WholeQueues = act_by_status whole c (acts_on (link_at n.parts link) (Status status)) link status n in
      either_done-stand (tells_outage c link status n.parts) (answer Handled (hear_outage whole c link n)) (if tells_recovery link status n.parts then back else acted) (stands of n)
      (hear_outage-stand (link_at n.parts link).peer_outage link n)
      (either_done-stand (tells_recovery link status n.parts) back acted (stands of n) refl
      (act_by_status-stand (acts_on (link_at n.parts link) (Status status)) link status n))

  act_by_timer-stand : (a : Action) (link : ℕ) (n : Node WholeQueues) → stands of (act_by_timer whole c a link n) ≡ stands of n
  act_by_timer-stand act.Ignored link n = refl
  act_by_timer-stand act.Fail link n = fail-stand link reasons.Timer n
  act_by_timer-stand (act.Go step) link n = advance-stand link step n

  pub run_out-stand : (link : ℕ) (its : LinkTimer) (n : Node WholeQueues) → stands of (run_out whole c link its n) ≡ stands of n
  run_out-stand link its n = act_by_timer-stand (acts_on (link_at n.parts link) (Expiry its)) link n

  pub leave_aside-stand : (link : ℕ) (fault : FrameFault) (n : Node WholeQueues) → stands of (leave_aside whole c link fault n).left ≡ stands of n
  leave_aside-stand link faults.Length n = fail-stand link reasons.Length n
  leave_aside-stand link faults.Short n = refl
  leave_aside-stand link faults.Version n = refl
  leave_aside-stand link faults.Unknown n = refl

  -- ---- tests and words that complete no changeover

  do_kind-stand : (kind : TestKind) (link point : ℕ) (test : LinkTestValue) (n : Node WholeQueues) → stands of (do_kind whole c kind link point test n).left ≡ stands of n
  do_kind-stand Test link point test n =
      let m : Message = test_answer c point test in
      send-stand (no_room whole c m n.queues) (Some link) m n (answer-management c point test)
  do_kind-stand Acknowledgement link point test n =
      either_done-stand (passes_test c link point test n.parts) (answer Handled (pass_test whole c link n)) (answer Ignored n) (stands of n)
      (return-stand (is_first_test link n.parts) link (facts c n.parts) (with_parts n (begun_anew (is_first_test link n.parts) c link n.parts (test_passed c link n.parts)))) refl

  pub do_test-stand : (r : Result LinkTestValue MgmtFault) (link point : ℕ) (n : Node WholeQueues) → stands of (do_test whole c r link point n).left ≡ stands of n
  do_test-stand (Err fault) link point n = refl
  do_test-stand (Ok test) link point n = do_kind-stand test.kind link point test n

  pub answered_back-stand : (set : Option ℕ) (code : ℕ) (n : Node WholeQueues) → stands of (on_changeback_acknowledgement whole c set code n).left ≡ stands of n
  answered_back-stand (Some set) code n =
      either_done-stand (is_outstanding n.parts.codes set code) (answer Handled (with_parts n (freed set code n.parts))) (answer Ignored n) (stands of n) refl refl
  answered_back-stand None code n = refl
