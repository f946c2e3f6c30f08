-- Links that fail and return: what each rule sends in vain, and how many notices it makes.
use Rattle.exchange_rules.proofs.Basics.{List, [], ◌||◌, Bool, None, Option, Some, arith, false, not, refl, true, ℕ, ◌&&◌, if◌then◌else◌, zero, suc, length, ◌+◌, ◌++◌}
use Rattle.exchange_rules.proofs.Definitions.{enters_traffic, acts_on, Action, Expiry, Status, LinkTimer, Transition, LinkStatus, Configuration, FailureReason, FrameFault, Handled, Ignored, changeover_order, fail_link, suspended, without_tests, fail_by_order, begin, begin_by_peer, change_over, changing, fail, fail_by_peer, has_other, is_ordered, make_unavailable, leave_aside, down, in_service, is_link, link_at, activate, association_down, deactivate, end_association, fail_if_up, set_active, set_of, WholeQueues, whole, facts, Node, Parts, answer, refuse, with_parts, act_by_status, act_by_timer, advance, begun_anew_if, enters, moved_on, step_on, on_link_status, run_out, serve_status, tells_outage, tells_recovery, begin_outage, hear_outage, end_outage, become_busy, end_busy, let_back, take_step, test_if, queue_if, send_test, begin_test, repeat_test, test_unanswered, with_test_failed, awaiting_test, link_test, tests_links, no_room, Cause, Notice, asking, is_late, order_late, order_if_late, order_each, order_all, late_by, Message}
use Rattle.link.specs.declared.action.Action.TheVariants as act
use Rattle.signalling_types.specs.declared.cause.Cause.TheVariants as causes
use Rattle.signalling_types.specs.declared.notice.FrameFault.TheVariants as faults
use Rattle.signalling_types.specs.declared.notice.Notice.TheVariants as notices
use Rattle.signalling_types.specs.declared.notice.FailureReason.TheVariants as reasons
use Rattle.m2pa_codec.specs.declared.status.LinkStatus.TheVariants as says
use Rattle.exchange_rules.proofs.Steps.{with_busy, without_busy}
use Rattle.exchange_rules.proofs.Naming.{Quiet, Sends, any-quiet, both-quiet, either-quiet, either-sends, either_done-quiet, either_done-sends, more-quiet, none, one-does, quiet-first, quiet-then, same-quiet, both-sends, more-does, sending}
use Rattle.exchange_rules.specs.GivingUp.{unsent_beginning, unsent_failing, unsent_falling, unsent_order, unsent}
use Rattle.exchange_rules.specs.GivingUpEvents.{unsent_acting, unsent_by_fault, unsent_by_own_timer, unsent_by_status, unsent_untested, unsent_late, unsent_late_each, unsent_late_all, unsent_late_by}
use Rattle.exchange_rules.proofs.QuietReturns.{return-quiet}
use Rattle.exchange_rules.proofs.QuietMessages.{changed-sends, routed-sends}
use Rattle.signalling_types.specs.declared.outcome.Outcome.{Outcome}
use Rattle.signalling_types.specs.declared.outcome.Outcome.TheVariants as outcome

module _ (c : Configuration) where
  -- ---- links fail

  gone-quiet : (served : Bool) (link : ℕ) (why : FailureReason) (n : Node WholeQueues) → Quiet 1 n (make_unavailable whole c served link why n)
  gone-quiet false link why n = one-does none (notices.Failed link why) n _ refl refl refl refl refl refl refl refl refl
  gone-quiet true link why n = by (has_other c link failed)
    where
      failed : Parts
      failed = fail_link link why (suspended c link (whole.unconfirmed n.queues link) n.parts)

      by : (others : Bool) → Quiet 1 n (with_parts n (if others then failed else without_tests (set_of c link) failed))
      by true = one-does none (notices.Failed link why) n _ refl refl refl refl refl refl refl refl refl
      by false = one-does none (notices.Failed link why) n _ refl refl refl refl refl refl refl refl refl

  order-sends : (ordered : Bool) (link : ℕ) (n : Node WholeQueues) → Sends (unsent_order c ordered link n) 1 n (begin whole c ordered link n)
  order-sends true link n =
      changed-sends c _ (changing c true link n.parts) n _ refl refl refl refl refl
      (routed-sends c (changeover_order c link (whole.last_accepted n.queues link)) (with_parts n (changing c true link n.parts)))
  order-sends false link n = more-quiet 0 1 n _ (omega arith) (same-quiet n _ refl refl refl refl refl)

  late-sends : (link : ℕ) (n : Node WholeQueues) → Sends (unsent_late c link n) 1 n (order_if_late whole c link n)
  late-sends link n =
      let asks : Node WholeQueues = with_parts n (asking c link n.parts) in
      let m : Message = changeover_order c link (whole.last_accepted n.queues link) in
      either-sends (unsent c m asks) [] 1 (is_late c link n.parts) n (order_late whole c link n) n
      (changed-sends c _ (asking c link n.parts) n _ refl refl refl refl refl (routed-sends c m asks)) (any-quiet 1 n)

  late_each-sends : (many : ℕ) (n : Node WholeQueues) → Sends (unsent_late_each c many n) many n (order_each whole c many n)
  unfolding order_each
  late_each-sends zero n = any-quiet 0 n
  late_each-sends (suc link) n =
      let us : List Notice = unsent_late_each c link n in
      let vs : List Notice = unsent_late c link (order_each whole c link n) in
      more-does (sending (us ++ vs)) (link + 1) (suc link) n _ (omega arith)
      (both-sends us vs link 1 n (order_each whole c link n) _ (late_each-sends link n) (late-sends link (order_each whole c link n)))

  late_all-sends : (n : Node WholeQueues) → Sends (unsent_late_all c n) (if c.changeover_by_any_route then length c.links else 0) n (order_all whole c n)
  late_all-sends n = by c.changeover_by_any_route
    where
      by : (b : Bool) → Sends (if b then unsent_late_each c (length c.links) n else []) (if b then length c.links else 0) n (if b then order_each whole c (length c.links) n else n)
      by true = late_each-sends (length c.links) n
      by false = any-quiet 0 n

  pub late_by-sends : (o : Outcome) (n : Node WholeQueues) → Sends (unsent_late_by c o n) (if c.changeover_by_any_route then length c.links else 0) n (late_by whole c o n)
  late_by-sends (outcome.Refused cause) n = any-quiet _ n
  late_by-sends (outcome.Queued link) n = late_all-sends n
  late_by-sends outcome.Held n = late_all-sends n
  late_by-sends outcome.Local n = late_all-sends n
  late_by-sends outcome.Handled n = late_all-sends n
  late_by-sends outcome.Ignored n = late_all-sends n

  beginning-sends : (served : Bool) (link : ℕ) (n : Node WholeQueues) → Sends (unsent_beginning c served link n) 1 n (change_over whole c served link n)
  beginning-sends true link n = order-sends (is_ordered c link n.parts) link n
  beginning-sends false link n = any-quiet 1 n

  pub fail-sends : (link : ℕ) (why : FailureReason) (n : Node WholeQueues) → Sends (unsent_failing c link why n) 2 n (fail whole c link why n)
  fail-sends link why n =
      let serves : Bool = in_service n.parts link in
      let gone : Node WholeQueues = make_unavailable whole c serves link why n in
      quiet-first (unsent_failing c link why n) 1 1 n gone _ (gone-quiet serves link why n) (beginning-sends serves link gone)

  pub fall-sends : (link : ℕ) (why : FailureReason) (n : Node WholeQueues) → Sends (unsent_falling c link why n) 2 n (fail_if_up whole c link why n)
  fall-sends link why n = either-sends [] (unsent_failing c link why n) 2 (down n.parts link) n n (fail whole c link why n) (any-quiet 2 n) (fail-sends link why n)

  begun_by_peer-quiet : (served : Bool) (link : ℕ) (n : Node WholeQueues) → Quiet 0 n (begin_by_peer whole c served link n)
  begun_by_peer-quiet true link n = same-quiet n _ refl refl refl refl refl
  begun_by_peer-quiet false link n = any-quiet 0 n

  by_peer-quiet : (link : ℕ) (n : Node WholeQueues) → Quiet 1 n (fail_by_peer whole c link n)
  by_peer-quiet link n =
      let serves : Bool = in_service n.parts link in
      let gone : Node WholeQueues = make_unavailable whole c serves link reasons.Changeover n in
      both-quiet 1 0 n gone _ (gone-quiet serves link reasons.Changeover n) (begun_by_peer-quiet serves link gone)

  pub fail_by_order-quiet : (link : ℕ) (n : Node WholeQueues) → Quiet 1 n (fail_by_order whole c link n)
  fail_by_order-quiet link n = either-quiet 1 (down n.parts link) n n (fail_by_peer whole c link n) (any-quiet 1 n) (by_peer-quiet link n)

  pub association_down-sends : (link : ℕ) (n : Node WholeQueues)
      → Sends (if is_link n.parts link && (link_at n.parts link).association then unsent_falling c link reasons.Association n else []) 2 n (association_down whole c link n).left
  association_down-sends link n = by (is_link n.parts link) (link_at n.parts link).association
    where
      us : List Notice
      us = unsent_falling c link reasons.Association n

      failed : Node WholeQueues
      failed = fail_if_up whole c link reasons.Association n

      by : (there associated : Bool) → Sends (if there && associated then us else []) 2 n
          (if there then (if associated then answer Handled (end_association whole c link failed) else answer Ignored n) else refuse causes.NoSuchName n).left
      by false associated = any-quiet 2 n
      by true false = any-quiet 2 n
      by true true = quiet-then us 2 0 n failed _ (fall-sends link reasons.Association n) (same-quiet failed _ refl refl refl refl refl)

  pub activate-quiet : (emergency : Bool) (link : ℕ) (n : Node WholeQueues) → Quiet 0 n (activate whole c emergency link n).left
  activate-quiet emergency link n =
      either_done-quiet 0 (is_link n.parts link) n (answer Handled (set_active whole c true emergency link n)) (refuse causes.NoSuchName n) (same-quiet n _ refl refl refl refl refl) (any-quiet 0 n)

  pub deactivate-sends : (link : ℕ) (n : Node WholeQueues)
      → Sends (if is_link n.parts link then unsent_falling c link reasons.Operator n else []) 2 n (deactivate whole c link n).left
  deactivate-sends link n =
      let us : List Notice = unsent_falling c link reasons.Operator n in
      let failed : Node WholeQueues = fail_if_up whole c link reasons.Operator n in
      either_done-sends us [] 2 (is_link n.parts link) n (answer Handled (set_active whole c false false link failed)) (refuse causes.NoSuchName n)
      (quiet-then us 2 0 n failed _ (fall-sends link reasons.Operator n) (same-quiet failed _ refl refl refl refl refl)) (any-quiet 2 n)

  -- ---- links enter service

  moved-quiet : (first : Bool) (link : ℕ) (step : Transition) (n : Node WholeQueues) → Quiet 0 n (with_parts n (begun_anew_if first c link (step_on c link step n.parts)))
  moved-quiet true link step n = same-quiet n _ refl refl refl refl refl
  moved-quiet false link step n = same-quiet n _ refl refl refl refl refl

  -- ---- tests of links

  queue_if-quiet : (room : Option Cause) (link : ℕ) (n : Node WholeQueues) → Quiet 0 n (queue_if whole c room link (link_test c link) n)
  queue_if-quiet (Some cause) link n = any-quiet 0 n
  queue_if-quiet None link n = same-quiet n _ refl refl refl refl refl

  send_test-quiet : (link : ℕ) (n : Node WholeQueues) → Quiet 0 n (send_test whole c link n)
  send_test-quiet link n =
      let next : Node WholeQueues = with_parts n (awaiting_test c link n.parts) in
      both-quiet 0 0 n next _ (same-quiet n next refl refl refl refl refl) (queue_if-quiet (no_room whole c (link_test c link) n.queues) link next)

  pub begin_test-quiet : (link : ℕ) (n : Node WholeQueues) → Quiet 0 n (begin_test whole c link n)
  begin_test-quiet link n =
      either-quiet 0 (tests_links c && in_service n.parts link) n (send_test whole c link n) n (send_test-quiet link n) (any-quiet 0 n)

  again-quiet : (link : ℕ) (n : Node WholeQueues) → Quiet 2 n (repeat_test whole c false link n)
  again-quiet link n =
      let failed : Node WholeQueues = with_parts n (with_test_failed true link n.parts) in
      more-quiet 0 2 n _ (omega arith) (both-quiet 0 0 n failed _ (same-quiet n failed refl refl refl refl refl) (begin_test-quiet link failed))

  pub test_unanswered-sends : (link : ℕ) (n : Node WholeQueues) → Sends (unsent_untested c link n) 2 n (test_unanswered whole c link n)
  test_unanswered-sends link n = by (in_service n.parts link) (link_at n.parts link).test_failed
    where
      by : (serves again : Bool) → Sends (if serves && again then unsent_failing c link reasons.Test n else []) 2 n (if serves then repeat_test whole c again link n else n)
      by false again = any-quiet 2 n
      by true false = again-quiet link n
      by true true = fail-sends link reasons.Test n

  test_if-quiet : (entered : Bool) (link : ℕ) (n : Node WholeQueues) → Quiet 0 n (test_if whole c entered link n)
  test_if-quiet true link n = begin_test-quiet link n
  test_if-quiet false link n = any-quiet 0 n

  pub advance-quiet : (link : ℕ) (step : Transition) (n : Node WholeQueues) → Quiet 0 n (advance whole c link step n)
  advance-quiet link step n =
      let moved : Node WholeQueues = with_parts n (moved_on c link step n.parts) in
      let took : Node WholeQueues = take_step whole c link step n in
      both-quiet 0 0 n took _
      (both-quiet 0 0 n moved took (moved-quiet (enters_traffic link step n.parts && not (has_other c link n.parts)) link step n)
      (return-quiet c (enters_traffic link step n.parts) link (facts c n.parts) moved))
      (test_if-quiet (enters link step n.parts) link took)

  -- ---- statuses, timers of links, and frames that can't be read

  begun-busy : (link : ℕ) (n : Node WholeQueues) → Quiet 0 n (with_parts n (become_busy c link n.parts))
  begun-busy link n = by (link_at n.parts link).peer_busy
    where
      by : (busy : Bool) → Quiet 0 n (with_parts n (if busy then n.parts else with_busy c link n.parts))
      by true = same-quiet n _ refl refl refl refl refl
      by false = same-quiet n _ refl refl refl refl refl

  ended-busy : (link : ℕ) (n : Node WholeQueues) → Quiet 0 n (with_parts n (end_busy c link (whole.outstanding n.queues link) n.parts))
  ended-busy link n = by (link_at n.parts link).peer_busy
    where
      by : (busy : Bool) → Quiet 0 n (with_parts n (if busy then without_busy c link (whole.outstanding n.queues link) n.parts else n.parts))
      by true = same-quiet n _ refl refl refl refl refl
      by false = same-quiet n _ refl refl refl refl refl

  serve_status-quiet : (link : ℕ) (status : LinkStatus) (n : Node WholeQueues) → Quiet 0 n (serve_status whole c link status n)
  serve_status-quiet link says.Busy n = begun-busy link n
  serve_status-quiet link says.BusyEnded n = by (link_at n.parts link).peer_outage
    where
      by : (out : Bool) → Quiet 0 n (with_parts n (if out then n.parts else end_busy c link (whole.outstanding n.queues link) n.parts))
      by true = same-quiet n _ refl refl refl refl refl
      by false = ended-busy link n
  serve_status-quiet link says.Alignment n = any-quiet 0 n
  serve_status-quiet link says.ProvingNormal n = any-quiet 0 n
  serve_status-quiet link says.ProvingEmergency n = any-quiet 0 n
  serve_status-quiet link says.Ready n = any-quiet 0 n
  serve_status-quiet link says.ProcessorOutage n = any-quiet 0 n
  serve_status-quiet link says.ProcessorRecovered n = any-quiet 0 n
  serve_status-quiet link says.OutOfService n = any-quiet 0 n

  act_by_status-sends : (a : Action) (link : ℕ) (status : LinkStatus) (n : Node WholeQueues) → Sends (unsent_acting c a reasons.Status link n) 2 n (act_by_status whole c a link status n).left
  act_by_status-sends act.Ignored link status n = any-quiet 2 n
  act_by_status-sends act.Fail link status n = fail-sends link reasons.Status n
  act_by_status-sends (act.Go step) link status n =
      let moved : Node WholeQueues = advance whole c link step n in
      more-quiet 0 2 n _ (omega arith)
      (both-quiet 0 0 n moved _ (advance-quiet link step n)
      (either-quiet 0 step.serve moved (serve_status whole c link status moved) moved (serve_status-quiet link status moved) (any-quiet 0 moved)))

  begin_outage-quiet : (link : ℕ) (n : Node WholeQueues) → Quiet 0 n (begin_outage whole c link n)
  begin_outage-quiet link n =
      let one : Node WholeQueues = with_parts n (end_busy c link (whole.outstanding n.queues link) n.parts) in
      let two : Node WholeQueues = with_parts n (become_busy c link one.parts) in
      both-quiet 0 0 n one _ (ended-busy link n) (both-quiet 0 0 one two _ (begun-busy link one) (same-quiet two _ refl refl refl refl refl))

  end_outage-quiet : (link : ℕ) (n : Node WholeQueues) → Quiet 0 n (end_outage whole c link n)
  end_outage-quiet link n =
      let back : Node WholeQueues = with_parts n (let_back link n.parts) in
      both-quiet 0 0 n back _ (same-quiet n back refl refl refl refl refl) (ended-busy link back)

  pub on_link_status-sends : (link : ℕ) (status : LinkStatus) (n : Node WholeQueues) → Sends (unsent_by_status c link status n) 2 n (on_link_status whole c link status n).left
  on_link_status-sends link status n = by (tells_outage c link status n.parts) (tells_recovery link status n.parts)
    where
      a : Action
      a = acts_on (link_at n.parts link) (Status status)

      by : (outage recovery : Bool) → Sends (if outage || recovery then [] else unsent_acting c a reasons.Status link n) 2 n
          (if outage then answer Handled (hear_outage whole c link n) else (if recovery then answer Handled (end_outage whole c link n) else act_by_status whole c a link status n)).left
      by true recovery = either-quiet 2 (link_at n.parts link).peer_outage n n (begin_outage whole c link n) (any-quiet 2 n) (more-quiet 0 2 n _ (omega arith) (begin_outage-quiet link n))
      by false true = more-quiet 0 2 n _ (omega arith) (end_outage-quiet link n)
      by false false = act_by_status-sends a link status n

  act_by_timer-sends : (a : Action) (link : ℕ) (n : Node WholeQueues) → Sends (unsent_acting c a reasons.Timer link n) 2 n (act_by_timer whole c a link n)
  act_by_timer-sends act.Ignored link n = any-quiet 2 n
  act_by_timer-sends act.Fail link n = fail-sends link reasons.Timer n
  act_by_timer-sends (act.Go step) link n = more-quiet 0 2 n _ (omega arith) (advance-quiet link step n)

  pub run_out-sends : (its : LinkTimer) (link : ℕ) (n : Node WholeQueues) → Sends (unsent_by_own_timer c its link n) 2 n (run_out whole c link its n)
  run_out-sends its link n = act_by_timer-sends (acts_on (link_at n.parts link) (Expiry its)) link n

  pub leave_aside-sends : (link : ℕ) (fault : FrameFault) (n : Node WholeQueues) → Sends (unsent_by_fault c link fault n) 2 n (leave_aside whole c link fault n).left
  leave_aside-sends link faults.Length n = fail-sends link reasons.Length n
  leave_aside-sends link faults.Short n = more-quiet 1 2 n _ (omega arith) (one-does none (notices.Frame faults.Short link) n _ refl refl refl refl refl refl refl refl refl)
  leave_aside-sends link faults.Version n = more-quiet 1 2 n _ (omega arith) (one-does none (notices.Frame faults.Version link) n _ refl refl refl refl refl refl refl refl refl)
  leave_aside-sends link faults.Unknown n = more-quiet 1 2 n _ (omega arith) (one-does none (notices.Frame faults.Unknown link) n _ refl refl refl refl refl refl refl refl refl)
