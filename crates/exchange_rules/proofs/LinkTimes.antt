-- Of the timers that may take a link into service or out of it, no failure, changeover or return sets one, and no step
-- of an alignment any but one of a test.
use Rattle.exchange_rules.proofs.Basics.{◌≡◌, ℕ, zero, suc, Bool, true, false, ◌&&◌, not, List, [], ◌∷◌, length, Option, Some, None, refl, ap, sym, ◌∙◌, if◌then◌else◌}
use Rattle.exchange_rules.proofs.Definitions.{enters_traffic, without_timers, take_step, test_if, queue_if, send_test, begin_test, repeat_test, test_unanswered, with_test_failed, awaiting_test, answer_ticks, link_test, tests_links, Cause, link_at, Message, flow_of, Configuration, FailureReason, Facts, Transition, TimerName, Running, set_timer, left-set_other, left-clear_set_other, is_of_set, clear_set, Parts, Node, with_parts, answer, Handled, Ignored, in_service, down, set_of, facts, suspended, fail_link, has_other, is_ordered, without_tests, make_unavailable, changing, begin, change_over, begin_by_peer, fail_by_peer, fail_by_order, complete_by_order, complete_if, completed, changeover_of, with_changeover, changeover_order, send_routed, changeover_acknowledgement, on_changeover_order, with_changeover_acknowledged, no_room, link_of, loses_flows, code_for, hold_flows, take_back_each, held_by_rerouting, step_on, enters, begun_anew_if, moved_on, return_if, advance, WholeQueues, whole, bar, timed_bar, awaits_incomplete, asking, is_late, order_late, order_if_late, order_each, order_all, clear_timer}
use Rattle.timers.proofs.Maps.{left-clear_set}
use Rattle.timers.specs.declared.name.TimerName.TheVariants as name
use Rattle.timers.specs.declared.name.RouteTimer.{RouteTimer}
use Rattle.timers.specs.declared.name.RouteTimer.TheVariants as of_set
use Rattle.signalling_types.specs.declared.notice.FailureReason.TheVariants as reasons
use Rattle.exchange_rules.proofs.Steps.{takes_links, moves_links}
use Rattle.exchange_rules.proofs.WillEnding.{no-way}
use Rattle.exchange_rules.proofs.Eased.{Eased, less-clear, less-without, send-eased, completed-eased, moved-waited}

-- ---- from one node to another none of them is set

pub record Kept (n m : Node WholeQueues) : Type 0 where
  pub timers : (timer : TimerName) → moves_links timer ≡ true → (x : ℕ) → m.parts.timers.left timer ≡ Some x → n.parts.timers.left timer ≡ Some x

pub kept-both : (n m o : Node WholeQueues) → Kept n m → Kept m o → Kept n o
kept-both n m o e f = record { timers = λ timer t x h. e.timers timer t x (f.timers timer t x h) }

pub kept-same : (n m : Node WholeQueues) → m.parts.timers ≡ n.parts.timers → Kept n m
kept-same n m e = record { timers = λ timer t x h. sym (ap (λ (r : Running). r.left timer) e) ∙ h }

pub kept-eased : (n m : Node WholeQueues) → Eased n m → Kept n m
kept-eased n m e = record { timers = λ timer t x h. e.timers timer (moved-waited timer t) x h }

-- another timer is set, and those of a set are stopped
pub other-set : (its : TimerName) (ticks : ℕ) (r : Running) → moves_links its ≡ false → (timer : TimerName) → moves_links timer ≡ true → (x : ℕ)
    → (set_timer its ticks r).left timer ≡ Some x → r.left timer ≡ Some x
other-set its ticks r none timer t x h =
    sym (left-set_other its timer ticks r (λ same. no-way (moves_links its) none (ap moves_links same ∙ t))) ∙ h

set-cleared : (of : RouteTimer) (set : ℕ) (r : Running) (timer : TimerName) (x : ℕ) → (clear_set of set r).left timer ≡ Some x → r.left timer ≡ Some x
set-cleared of set r timer x h = by (is_of_set of set timer) refl
  where
    by : (b : Bool) → is_of_set of set timer ≡ b → r.left timer ≡ Some x
    by true e = (let no : None ≡ Some x = sym (left-clear_set of set timer r e) ∙ h in absurd cc)
    by false e = sym (left-clear_set_other of set timer r e) ∙ h

-- a node where the timers of a link stopped
abbrev pub stopped : (link : ℕ) → Node WholeQueues → Node WholeQueues
stopped link n = with_parts n (record n.parts { timers = without_timers link n.parts.timers })

-- ---- and of those by which a link enters service or leaves it none but the timers of its tests

turns-move : (timer : TimerName) → takes_links timer ≡ true → moves_links timer ≡ true
turns-move (name.L4 link) e = refl
turns-move (name.L6 link) e = refl
turns-move (name.L7 link) e = refl
turns-move (name.L1 link) e = absurd cc
turns-move (name.L2 link) e = absurd cc
turns-move (name.L3 link) e = absurd cc
turns-move (name.T1 link) e = absurd cc
turns-move (name.T2 link) e = absurd cc
turns-move (name.T3 link) e = absurd cc
turns-move (name.T4 set code) e = absurd cc
turns-move (name.T6 destination) e = absurd cc
turns-move (name.T8 set destination) e = absurd cc
turns-move (name.T10 set destination) e = absurd cc
turns-move (name.Slt1 link) e = absurd cc
turns-move (name.Slt2 link) e = absurd cc

pub record Turned (n m : Node WholeQueues) : Type 0 where
  pub timers : (timer : TimerName) → takes_links timer ≡ true → (x : ℕ) → m.parts.timers.left timer ≡ Some x → n.parts.timers.left timer ≡ Some x

pub turned-of : (n m : Node WholeQueues) → Kept n m → Turned n m
turned-of n m e = record { timers = λ timer t x h. e.timers timer (turns-move timer t) x h }

pub turned-both : (n m o : Node WholeQueues) → Turned n m → Turned m o → Turned n o
turned-both n m o e f = record { timers = λ timer t x h. e.timers timer t x (f.timers timer t x h) }

pub turned-same : (n m : Node WholeQueues) → m.parts.timers ≡ n.parts.timers → Turned n m
turned-same n m e = turned-of n m (kept-same n m e)

pub turned-set : (its : TimerName) (ticks : ℕ) (r : Running) → takes_links its ≡ false → (timer : TimerName) → takes_links timer ≡ true → (x : ℕ)
    → (set_timer its ticks r).left timer ≡ Some x → r.left timer ≡ Some x
turned-set its ticks r none timer t x h =
    sym (left-set_other its timer ticks r (λ same. no-way (takes_links its) none (ap takes_links same ∙ t))) ∙ h

module _ (c : Configuration) where
  -- ---- a link fails

  untested-kept : (others : Bool) (set : ℕ) (p : Parts) (timer : TimerName) (x : ℕ) → (if others then p else without_tests set p).timers.left timer ≡ Some x → p.timers.left timer ≡ Some x
  untested-kept true set p timer x h = h
  untested-kept false set p timer x h = set-cleared of_set.T10 set p.timers timer x h

  gone-kept : (served : Bool) (link : ℕ) (why : FailureReason) (n : Node WholeQueues) → Kept n (make_unavailable whole c served link why n)
  gone-kept false link why n = record { timers = λ timer t x h. less-without link n.parts.timers timer (moved-waited timer t) x h }
  gone-kept true link why n =
      let failed : Parts = fail_link link why (suspended c link (whole.unconfirmed n.queues link) n.parts) in
      record { timers = λ timer t x h. less-without link n.parts.timers timer (moved-waited timer t) x (untested-kept (has_other c link failed) (set_of c link) failed timer x h) }

  sent-kept : (m : Message) (n : Node WholeQueues) → Kept n (send_routed whole c m n)
  sent-kept m n = kept-eased n _ (send-eased c (no_room whole c m n.queues) (link_of c n.parts (flow_of m)) m n)

  begun-kept : (served ordered : Bool) (link : ℕ) (n : Node WholeQueues) → Kept n (if served then begin whole c ordered link n else n)
  begun-kept false ordered link n = kept-same n n refl
  begun-kept true true link n =
      let next : Node WholeQueues = with_parts n (changing c true link n.parts) in
      kept-both n next _ (record { timers = other-set (name.T2 link) c.timers.t2 n.parts.timers refl }) (sent-kept (changeover_order c link (whole.last_accepted n.queues link)) next)
  begun-kept true false link n = record { timers = other-set (name.T1 link) c.timers.t1 n.parts.timers refl }

  pub fails-kept : (served : Bool) (link : ℕ) (why : FailureReason) (n : Node WholeQueues) → Kept n (change_over whole c served link (make_unavailable whole c served link why n))
  fails-kept false link why n = gone-kept false link why n
  fails-kept true link why n =
      let gone : Node WholeQueues = make_unavailable whole c true link why n in
      kept-both n gone _ (gone-kept true link why n) (begun-kept true (is_ordered c link gone.parts) link gone)

  -- but for the timers of the link, which stopped
  gone-from : (served : Bool) (link : ℕ) (why : FailureReason) (n : Node WholeQueues) → Kept (stopped link n) (make_unavailable whole c served link why n)
  gone-from false link why n = kept-same (stopped link n) _ refl
  gone-from true link why n =
      let failed : Parts = fail_link link why (suspended c link (whole.unconfirmed n.queues link) n.parts) in
      record { timers = λ timer t x h. untested-kept (has_other c link failed) (set_of c link) failed timer x h }

  pub fails-from : (served : Bool) (link : ℕ) (why : FailureReason) (n : Node WholeQueues) → Kept (stopped link n) (change_over whole c served link (make_unavailable whole c served link why n))
  fails-from false link why n = gone-from false link why n
  fails-from true link why n =
      let gone : Node WholeQueues = make_unavailable whole c true link why n in
      kept-both (stopped link n) gone _ (gone-from true link why n) (begun-kept true (is_ordered c link gone.parts) link gone)

  by_peer-kept : (served : Bool) (link : ℕ) (n : Node WholeQueues) → Kept n (begin_by_peer whole c served link (make_unavailable whole c served link reasons.Changeover n))
  by_peer-kept false link n = gone-kept false link reasons.Changeover n
  by_peer-kept true link n =
      kept-both n (make_unavailable whole c true link reasons.Changeover n) _ (gone-kept true link reasons.Changeover n) (kept-same (make_unavailable whole c true link reasons.Changeover n) _ refl)

  ordered-kept : (is_down : Bool) (link : ℕ) (n : Node WholeQueues) → Kept n (if is_down then n else fail_by_peer whole c link n)
  ordered-kept true link n = kept-same n n refl
  ordered-kept false link n = by_peer-kept (in_service n.parts link) link n

  pub bar-kept : (link : ℕ) (n : Node WholeQueues) → Kept n (bar whole c link n)
  bar-kept link n = record { timers = by c.timers.t2_bar (awaits_incomplete (changeover_of n.parts link)) }
    where
      by : (ticks : Option ℕ) (is_barred : Bool) (timer : TimerName) → moves_links timer ≡ true → (x : ℕ) → (timed_bar ticks is_barred link n.parts.timers).left timer ≡ Some x
          → n.parts.timers.left timer ≡ Some x
      by (Some ticks) true = other-set (name.T2 link) ticks n.parts.timers refl
      by (Some ticks) false = λ timer t x h. h
      by None is_barred = λ timer t x h. h

  pub orders-kept : (link : ℕ) (number : Option ℕ) (n : Node WholeQueues) → Kept n (on_changeover_order whole c link number n).left
  orders-kept link number n =
      let fallen : Node WholeQueues = fail_by_order whole c link n in
      let one : Node WholeQueues = bar whole c link fallen in
      let standing : Node WholeQueues = with_parts one (with_changeover link (completed (changeover_of one.parts link)) one.parts) in
      let two : Node WholeQueues = complete_by_order whole c link number one in
      kept-both n one _ (kept-both n fallen one (ordered-kept (down n.parts link) link n) (bar-kept link fallen))
      (kept-both one two _ (kept-both one standing two (kept-same one standing refl) (kept-eased standing two (completed-eased c (changeover_of one.parts link).incomplete link number standing)))
      (sent-kept (changeover_acknowledgement c link (whole.last_accepted two.queues link)) two))

  pub acknowledges-kept : (awaited : Bool) (link : ℕ) (number : Option ℕ) (n : Node WholeQueues)
      → Kept n (if awaited then answer Handled (complete_if whole c (changeover_of n.parts link).incomplete link number (with_parts n (with_changeover_acknowledged link n.parts)))
      else answer Ignored n).left
  acknowledges-kept false link number n = kept-same n n refl
  acknowledges-kept true link number n =
      let next : Node WholeQueues = with_parts n (with_changeover_acknowledged link n.parts) in
      kept-both n next _ (record { timers = λ timer t x h. less-clear (name.T2 link) n.parts.timers timer (moved-waited timer t) x h })
      (kept-eased next _ (completed-eased c (changeover_of n.parts link).incomplete link number next))

  -- an order goes out late
  pub asks-kept : (link : ℕ) (n : Node WholeQueues) → Kept n (order_late whole c link n)
  asks-kept link n =
      let stopped : Running = clear_timer (name.T1 link) n.parts.timers in
      let asks : Node WholeQueues = with_parts n (asking c link n.parts) in
      kept-both n asks _
      (record { timers = λ timer t x h. less-clear (name.T1 link) n.parts.timers timer (moved-waited timer t) x (other-set (name.T2 link) c.timers.t2 stopped refl timer t x h) })
      (sent-kept (changeover_order c link (whole.last_accepted n.queues link)) asks)

  late-kept : (link : ℕ) (n : Node WholeQueues) → Kept n (order_if_late whole c link n)
  late-kept link n = by (is_late c link n.parts)
    where
      by : (late : Bool) → Kept n (if late then order_late whole c link n else n)
      by true = asks-kept link n
      by false = kept-same n n refl

  late_each-kept : (many : ℕ) (n : Node WholeQueues) → Kept n (order_each whole c many n)
  unfolding order_each
  late_each-kept zero n = kept-same n n refl
  late_each-kept (suc link) n =
      let one : Node WholeQueues = order_each whole c link n in
      kept-both n one _ (late_each-kept link n) (late-kept link one)

  pub late_all-kept : (n : Node WholeQueues) → Kept n (order_all whole c n)
  late_all-kept n = by c.changeover_by_any_route
    where
      by : (any : Bool) → Kept n (if any then order_each whole c (length c.links) n else n)
      by true = late_each-kept (length c.links) n
      by false = kept-same n n refl

  -- ---- a link returns

  pub returns-kept : (before after : Facts) (code : Option ℕ) (link other : ℕ) (n : Node WholeQueues) → Kept n (hold_flows whole c before after code link other n)
  returns-kept before after (Some code) link other n = record { timers = other-set (name.T4 (set_of c link) code) c.timers.t4 n.parts.timers refl }
  returns-kept before after None link other n = record { timers = other-set (name.T3 link) c.timers.t3 n.parts.timers refl }

  pub reroutes-kept : (destination : ℕ) (selections : List ℕ) (n : Node WholeQueues) → Kept n (with_parts n (held_by_rerouting c destination selections n.parts))
  reroutes-kept destination [] n = kept-same n n refl
  reroutes-kept destination (sls ∷ others) n = record { timers = other-set (name.T6 destination) c.timers.t6 n.parts.timers refl }

  taken_back-kept : (loses : Bool) (before after : Facts) (link other : ℕ) (n : Node WholeQueues)
      → Kept n (if loses then hold_flows whole c before after (code_for whole c link other n) link other n else n)
  taken_back-kept true before after link other n = returns-kept before after (code_for whole c link other n) link other n
  taken_back-kept false before after link other n = kept-same n n refl

  take_back_each-kept : (before after : Facts) (link many : ℕ) (n : Node WholeQueues) → Kept n (take_back_each whole c before after link many n)
  unfolding take_back_each
  take_back_each-kept before after link zero n = kept-same n n refl
  take_back_each-kept before after link (suc other) n =
      let one : Node WholeQueues = take_back_each whole c before after link other n in
      kept-both n one _ (take_back_each-kept before after link other n) (taken_back-kept (loses_flows c before after other link) before after link other one)

  returned-kept : (entered : Bool) (link : ℕ) (before : Facts) (n : Node WholeQueues) → Kept n (return_if whole c entered link before n)
  returned-kept true link before n = take_back_each-kept before (facts c n.parts) link (length c.links) n
  returned-kept false link before n = kept-same n n refl

  anew-kept : (first : Bool) (link : ℕ) (n : Node WholeQueues) → Kept n (with_parts n (begun_anew_if first c link n.parts))
  anew-kept true link n = record {
    timers = λ timer t x h. set-cleared of_set.T8 (set_of c link) n.parts.timers timer x (set-cleared of_set.T10 (set_of c link) (clear_set of_set.T8 (set_of c link) n.parts.timers) timer x h);
  }
  anew-kept false link n = kept-same n n refl

  -- a test goes out
  queue_if-turned : (room : Option Cause) (link : ℕ) (n : Node WholeQueues) → Turned n (queue_if whole c room link (link_test c link) n)
  queue_if-turned (Some cause) link n = turned-same n n refl
  queue_if-turned None link n = turned-same n _ refl

  begun_test-turned : (begins : Bool) (link : ℕ) (n : Node WholeQueues) → Turned n (if begins then send_test whole c link n else n)
  begun_test-turned true link n =
      let next : Node WholeQueues = with_parts n (awaiting_test c link n.parts) in
      turned-both n next _ (record { timers = turned-set (name.Slt1 link) (answer_ticks c) n.parts.timers refl }) (queue_if-turned (no_room whole c (link_test c link) n.queues) link next)
  begun_test-turned false link n = turned-same n n refl

  pub begin_test-turned : (link : ℕ) (n : Node WholeQueues) → Turned n (begin_test whole c link n)
  begin_test-turned link n = begun_test-turned (tests_links c && in_service n.parts link) link n

  repeat_test-turned : (again : Bool) (link : ℕ) (n : Node WholeQueues) → Turned n (repeat_test whole c again link n)
  repeat_test-turned true link n = turned-of n _ (fails-kept (in_service n.parts link) link reasons.Test n)
  repeat_test-turned false link n =
      let failed : Node WholeQueues = with_parts n (with_test_failed true link n.parts) in
      turned-both n failed _ (turned-same n failed refl) (begin_test-turned link failed)

  unanswered-turned : (serves : Bool) (link : ℕ) (n : Node WholeQueues) → Turned n (if serves then repeat_test whole c (link_at n.parts link).test_failed link n else n)
  unanswered-turned true link n = repeat_test-turned (link_at n.parts link).test_failed link n
  unanswered-turned false link n = turned-same n n refl

  pub test_unanswered-turned : (link : ℕ) (n : Node WholeQueues) → Turned n (test_unanswered whole c link n)
  test_unanswered-turned link n = unanswered-turned (in_service n.parts link) link n

  tested-turned : (entered : Bool) (link : ℕ) (n : Node WholeQueues) → Turned n (test_if whole c entered link n)
  tested-turned true link n = begin_test-turned link n
  tested-turned false link n = turned-same n n refl

  pub advanced-turned : (link : ℕ) (step : Transition) (n : Node WholeQueues) → Turned n (with_parts n (step_on c link step n.parts)) → Turned n (advance whole c link step n)
  advanced-turned link step n e =
      let stepped : Node WholeQueues = with_parts n (step_on c link step n.parts) in
      let moved : Node WholeQueues = with_parts n (moved_on c link step n.parts) in
      let took : Node WholeQueues = take_step whole c link step n in
      turned-both n took _ (turned-both n moved took (turned-both n stepped moved e (turned-of stepped _ (anew-kept (enters_traffic link step n.parts && not (has_other c link n.parts)) link stepped)))
      (turned-of moved _ (returned-kept (enters_traffic link step n.parts) link (facts c n.parts) moved))) (tested-turned (enters link step n.parts) link took)
