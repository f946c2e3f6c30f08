-- A link fails, and its changeover goes on and ends: each rule is made of steps.
use Rattle.exchange_rules.proofs.Basics.{◌≡◌, ℕ, Bool, true, false, ◌&&◌, not, List, [], ◌∷◌, Option, Some, None, refl, ◌∙◌, if◌then◌else◌, and_parts}
use Rattle.exchange_rules.proofs.Definitions.{Message, flow_of, Cause, LostUnconfirmed, after_failure, Handled, Ignored, FailureReason, ChangeoverTimer, Configuration, Running, Standing, completed, acknowledged, failed, begun_by_peer, Changeover, Parts, Node, Found, with_parts, answer, is_link, link_at, links_with, down, in_service, facts, link_of, no_room, send, set_of, is_failed, suspended, without_tests, fail_link, changeover_order, changeover_of, with_changeover, has_other, is_ordered, timed_changeover, changing, make_unavailable, begin, change_over, fail, begin_by_peer, fail_by_peer, lose, lose_each, judged, lifted_parts, concluded, changeover_acknowledgement, with_expiry, with_changeover_acknowledged, complete_if, fail_by_order, complete_by_order, on_changeover_order, on_changeover_acknowledgement, on_changeover_timer, WholeQueues, whole, bar, barred, timed_bar, bars, expiry_notice, ends_wait, unbarred, broken_if, once_more, note, flagged, Notice, is_barred, awaits_incomplete, stays_awaited, expired, lost_any, clear_timer, with_order, is_late, order_late, asking, is_unasked, has_way}
use Rattle.signalling_types.specs.declared.notice.Notice.TheVariants as notices
use Rattle.signalling_types.specs.declared.notice.Unbarring.TheVariants as unbarring
use Rattle.signalling_types.specs.declared.notice.FailureReason.TheVariants as reasons
use Rattle.signalling_types.specs.declared.notice.ChangeoverTimer.TheVariants as which
use Rattle.timers.specs.declared.name.TimerName.TheVariants as name
use Rattle.timers.specs.declared.name.RouteTimer.TheVariants as of_set
use Rattle.exchange_rules.proofs.Places.{with_flows-fits, lifted-fits}
use Rattle.exchange_rules.proofs.Steps.{AreTimed, AreHeld, IsTold, IsOfSteps, sends-of, either-steps, either_done-steps}
use Rattle.exchange_rules.proofs.SteppingTimers.{same-timed, set-timed, clear-timed, clear_set-timed}
use Rattle.exchange_rules.proofs.SteppingMessages.{send_routed-steps, send_each-steps}
use Rattle.std.proofs.lemmas.Bool.{not-true}

-- ---- the flows that a changeover holds

suspended-held : (c : Configuration) (link : ℕ) (ms : List Message) (p : Parts) → AreHeld c p.holds (suspended c link ms p).holds
suspended-held c link ms p = record { fits = with_flows-fits c p.holds (Changeover link) (is_failed c (facts c p) link ms) }

-- ---- the links after a failure

send-links : (c : Configuration) (room : Option Cause) (link : Option ℕ) (m : Message) (n : Node WholeQueues) → (send whole c room link m n).parts.links ≡ n.parts.links
send-links c (Some cause) link m n = refl
send-links c None None m n = refl
send-links c None (Some link) m n = refl

begin-links : (c : Configuration) (ordered : Bool) (link : ℕ) (n : Node WholeQueues) → (begin whole c ordered link n).parts.links ≡ n.parts.links
begin-links c true link n =
    let m : Message = changeover_order c link (whole.last_accepted n.queues link) in
    let next : Node WholeQueues = with_parts n (changing c true link n.parts) in
    send-links c (no_room whole c m next.queues) (link_of c next.parts (flow_of m)) m next
begin-links c false link n = refl

untested-links : (c : Configuration) (last : Bool) (set : ℕ) (p : Parts) → (if last then p else without_tests set p).links ≡ p.links
untested-links c true set p = refl
untested-links c false set p = refl

pub failed-links : (c : Configuration) (served : Bool) (link : ℕ) (why : FailureReason) (n : Node WholeQueues)
    → (change_over whole c served link (make_unavailable whole c served link why n)).parts.links ≡ links_with n.parts link (after_failure (link_at n.parts link))
failed-links c true link why n =
    let gone : Node WholeQueues = make_unavailable whole c true link why n in
    let failed : Parts = fail_link link why (suspended c link (whole.unconfirmed n.queues link) n.parts) in
    begin-links c (is_ordered c link gone.parts) link gone ∙ untested-links c (has_other c link failed) (set_of c link) failed
failed-links c false link why n = refl

pub fail-links : (c : Configuration) (link : ℕ) (why : FailureReason) (n : Node WholeQueues)
    → (fail whole c link why n).parts.links ≡ links_with n.parts link (after_failure (link_at n.parts link))
fail-links c link why n = failed-links c (in_service n.parts link) link why n

pub timed_changeover-timed : (c : Configuration) (ordered : Bool) (link : ℕ) (r : Running) → AreTimed r (timed_changeover c ordered link r)
timed_changeover-timed c true link r = set-timed (name.T2 link) c.timers.t2 r (λ l e. cc)
timed_changeover-timed c false link r = set-timed (name.T1 link) c.timers.t1 r (λ l e. cc)

-- ---- a link that is barred, and the end of the wait for its answer

pub timed_bar-timed : (ticks : Option ℕ) (is_barred : Bool) (link : ℕ) (r : Running) → AreTimed r (timed_bar ticks is_barred link r)
timed_bar-timed (Some ticks) true link r = set-timed (name.T2 link) ticks r (λ l e. cc)
timed_bar-timed (Some ticks) false link r = same-timed r
timed_bar-timed None is_barred link r = same-timed r

-- the changeover is complete, and an answer isn't awaited that wasn't
pub expired-complete : (bars : Bool) (st : Standing) → (expired bars which.T2 st).incomplete ≡ false
expired-complete bars st = by (stays_awaited bars st)
  where
    by : (b : Bool) → (if b then completed st else acknowledged st).incomplete ≡ false
    by true = refl
    by false = refl

pub expired-awaited : (bars : Bool) (st : Standing) → (expired bars which.T2 st).awaited ≡ true → st.awaited ≡ true
expired-awaited bars st = by (stays_awaited bars st)
  where
    by : (b : Bool) → (if b then completed st else acknowledged st).awaited ≡ true → st.awaited ≡ true
    by true e = e
    by false e = absurd cc

pub expiry-told : (c : Configuration) (st : Standing) (link : ℕ) (p : Parts) → lost_any p ≡ true → IsTold (expiry_notice c which.T2 st link) p
expiry-told c st link p lost = by (bars c && not st.incomplete)
  where
    by : (b : Bool) → IsTold (if b then notices.Unbarred unbarring.T2 link else notices.Expired which.T2 link) p
    by true = record { other = refl; lost = λ f. lost; late = λ f. absurd cc }
    by false = record { other = refl; lost = λ f. lost; late = λ f. absurd cc }

pub barred-complete : (st : Standing) → is_barred st ≡ true → st.incomplete ≡ false
barred-complete st e = not-true st.incomplete (and_parts (not st.incomplete) st.awaited e).0

module _ {c : Configuration} {Own Counts : ℕ → Type 0} {R : Node WholeQueues → Node WholeQueues → Type 0} (s : IsOfSteps c Own Counts R) where
  -- ---- a link fails

  untested-steps : (set : ℕ) (n : Node WholeQueues) → R n (with_parts n (without_tests set n.parts))
  untested-steps set n = s.timed _ n (clear_set-timed of_set.T10 set n.parts.timers)

  pub suspended-steps : (link : ℕ) (ms : List Message) (n : Node WholeQueues) → R n (with_parts n (suspended c link ms n.parts))
  suspended-steps link ms n = s.holding _ n (suspended-held c link ms n.parts)

  -- a link in service fails, and its changeover begins
  went-steps : (has_other : Bool) (link : ℕ) (why : FailureReason) (st : Standing) (n : Node WholeQueues) → in_service n.parts link ≡ true → st.incomplete ≡ true
      → R n (with_parts n (with_changeover link st (if has_other then fail_link link why n.parts else without_tests (set_of c link) (fail_link link why n.parts))))
  went-steps true link why st n e i = s.failed link why st n e i
  went-steps false link why st n e i =
      s.both _ _ _ (s.failed link why st n e i) (untested-steps (set_of c link) (with_parts n (with_changeover link st (fail_link link why n.parts))))

  pub fell-steps : (link : ℕ) (why : FailureReason) (st : Standing) (n : Node WholeQueues) → in_service n.parts link ≡ true → st.incomplete ≡ true
      → R n (with_parts n (with_changeover link st (make_unavailable whole c true link why n).parts))
  fell-steps link why st n e i =
      let suspends : Parts = suspended c link (whole.unconfirmed n.queues link) n.parts in
      s.both _ _ _ (suspended-steps link (whole.unconfirmed n.queues link) n)
      (went-steps (has_other c link (fail_link link why suspends)) link why st (with_parts n suspends) e i)

  begun-steps : (ordered : Bool) (link : ℕ) (why : FailureReason) (n : Node WholeQueues) → in_service n.parts link ≡ true
      → R n (begin whole c ordered link (make_unavailable whole c true link why n))
  begun-steps true link why n e =
      let gone : Node WholeQueues = make_unavailable whole c true link why n in
      let begins : Node WholeQueues = with_parts gone (changing c true link gone.parts) in
      s.both _ _ _ (fell-steps link why (failed true (changeover_of gone.parts link)) n e refl)
      (s.both _ _ _ (s.timed _ _ (timed_changeover-timed c true link gone.parts.timers))
      (send_routed-steps (sends-of s) (changeover_order c link (whole.last_accepted gone.queues link)) begins))
  begun-steps false link why n e =
      let gone : Node WholeQueues = make_unavailable whole c true link why n in
      s.both _ _ _ (fell-steps link why (failed false (changeover_of gone.parts link)) n e refl)
      (s.timed _ _ (timed_changeover-timed c false link gone.parts.timers))

  failing-steps : (served : Bool) (link : ℕ) (why : FailureReason) (n : Node WholeQueues) → in_service n.parts link ≡ served
      → R n (change_over whole c served link (make_unavailable whole c served link why n))
  failing-steps true link why n e = begun-steps (is_ordered c link (make_unavailable whole c true link why n).parts) link why n e
  failing-steps false link why n e = s.dropped link why n e

  pub fail-steps : (link : ℕ) (why : FailureReason) (n : Node WholeQueues) → R n (fail whole c link why n)
  fail-steps link why n = failing-steps (in_service n.parts link) link why n refl

  pub failing_by_peer-steps : (served : Bool) (link : ℕ) (n : Node WholeQueues) → in_service n.parts link ≡ served
      → R n (begin_by_peer whole c served link (make_unavailable whole c served link reasons.Changeover n))
  failing_by_peer-steps true link n e =
      let gone : Node WholeQueues = make_unavailable whole c true link reasons.Changeover n in
      fell-steps link reasons.Changeover (begun_by_peer (changeover_of gone.parts link)) n e refl
  failing_by_peer-steps false link n e = s.dropped link reasons.Changeover n e

  -- ---- a changeover ends

  lose-steps : (m : Message) (n : Node WholeQueues) → R n (with_parts n (lose LostUnconfirmed m n.parts))
  lose-steps m n =
      s.both _ _ _ (s.both _ _ _ (s.lost n) (s.noted (notices.Lost LostUnconfirmed (flow_of m).point (flow_of m).sls) _ (record { other = refl; lost = λ f. refl; late = λ f. absurd cc })))
      (s.counted (once_more n.parts.messages_lost) n.parts.times_broken _)

  lose_each-steps : (ms : List Message) (n : Node WholeQueues) → R n (with_parts n (lose_each ms n.parts))
  lose_each-steps [] n = s.none n
  lose_each-steps (m ∷ ms) n = s.both _ _ _ (lose-steps m n) (lose_each-steps ms (with_parts n (lose LostUnconfirmed m n.parts)))

  judged-steps : (reasonable : Bool) (n : Node WholeQueues) → R n (with_parts n (judged reasonable n.parts))
  judged-steps true n = s.none n
  judged-steps false n = s.lost n

  broken-steps : (breaks : Bool) (n : Node WholeQueues) → R n (with_parts n (broken_if breaks n.parts))
  broken-steps breaks n = s.counted n.parts.messages_lost (if breaks then once_more n.parts.times_broken else n.parts.times_broken) n

  pub bar-steps : (link : ℕ) (n : Node WholeQueues) → R n (bar whole c link n)
  bar-steps link n = s.timed _ n (timed_bar-timed c.timers.t2_bar (awaits_incomplete (changeover_of n.parts link)) link n.parts.timers)

  lifted-steps : (link : ℕ) (n : Node WholeQueues) → R n (with_parts n (lifted_parts link n.parts))
  lifted-steps link n =
      s.both _ _ _ (s.holding _ n (record { fits = lifted-fits c n.parts.holds (Changeover link) }))
      (s.timed _ _ (clear-timed (name.T1 link) n.parts.timers (λ l e. cc)))

  pub concluded-steps : (link : ℕ) (found : Found) (n : Node WholeQueues) → R n (with_parts n (concluded link found n.parts))
  concluded-steps link found n =
      let loses : Node WholeQueues = with_parts n (lose_each found.lost n.parts) in
      let judges : Node WholeQueues = with_parts loses (judged found.is_reasonable loses.parts) in
      s.both _ _ _ (lose_each-steps found.lost n)
      (s.both _ _ _ (judged-steps found.is_reasonable loses)
      (s.both _ _ _ (broken-steps found.is_wrong judges) (lifted-steps link (with_parts judges (broken_if found.is_wrong judges.parts)))))

  -- a changeover ends that wasn't complete, or was
  pub ended-steps : (incomplete : Bool) (link : ℕ) (number : Option ℕ) (st : Standing) (n : Node WholeQueues) → (changeover_of n.parts link).incomplete ≡ incomplete
      → st.incomplete ≡ false → (st.awaited ≡ true → (changeover_of n.parts link).awaited ≡ true)
      → R n (complete_if whole c incomplete link number (with_parts n (with_changeover link st n.parts)))
  ended-steps true link number st n e i w =
      let found : Found = whole.found n.queues link number in
      let done : Node WholeQueues = record { queues = whole.completed n.queues link number; parts = with_changeover link st n.parts } in
      s.both _ _ _ (s.completed link number st n e i)
      (s.both _ _ _ (concluded-steps link found done) (send_each-steps (sends-of s) found.queued_anew (with_parts done (concluded link found done.parts))))
  ended-steps false link number st n e i w = s.answered link st n e i w

  pub fail_by_order-steps : (link : ℕ) (n : Node WholeQueues) → R n (fail_by_order whole c link n)
  fail_by_order-steps link n =
      either-steps (sends-of s) (down n.parts link) n n (fail_by_peer whole c link n) (s.none n) (failing_by_peer-steps (in_service n.parts link) link n refl)

  pub complete_by_order-steps : (link : ℕ) (number : Option ℕ) (n : Node WholeQueues) → R n (complete_by_order whole c link number n)
  complete_by_order-steps link number n = ended-steps (changeover_of n.parts link).incomplete link number (completed (changeover_of n.parts link)) n refl refl (λ a. a)

  pub on_changeover_order-steps : (link : ℕ) (number : Option ℕ) (n : Node WholeQueues) → R n (on_changeover_order whole c link number n).left
  on_changeover_order-steps link number n =
      let fallen : Node WholeQueues = fail_by_order whole c link n in
      let one : Node WholeQueues = bar whole c link fallen in
      let two : Node WholeQueues = complete_by_order whole c link number one in
      s.both _ _ _ (s.both _ _ _ (fail_by_order-steps link n) (bar-steps link fallen))
      (s.both _ _ _ (complete_by_order-steps link number one) (send_routed-steps (sends-of s) (changeover_acknowledgement c link (whole.last_accepted two.queues link)) two))

  acknowledged-steps : (link : ℕ) (number : Option ℕ) (n : Node WholeQueues)
      → R n (complete_if whole c (changeover_of n.parts link).incomplete link number (with_parts n (with_changeover_acknowledged link n.parts)))
  acknowledged-steps link number n =
      let stopped : Node WholeQueues = with_parts n (record n.parts { timers = (with_changeover_acknowledged link n.parts).timers }) in
      s.both _ _ _ (s.timed _ n (clear-timed (name.T2 link) n.parts.timers (λ l e. cc)))
      (ended-steps (changeover_of n.parts link).incomplete link number (acknowledged (changeover_of n.parts link)) stopped refl refl (λ a. absurd cc))

  pub on_changeover_acknowledgement-steps : (link : ℕ) (number : Option ℕ) (n : Node WholeQueues) → R n (on_changeover_acknowledgement whole c link number n).left
  on_changeover_acknowledgement-steps link number n =
      let done : Node WholeQueues = complete_if whole c (changeover_of n.parts link).incomplete link number (with_parts n (with_changeover_acknowledged link n.parts)) in
      either_done-steps (sends-of s) (changeover_of n.parts link).awaited n (answer Handled done) (answer Ignored n) (acknowledged-steps link number n) (s.none n)

  -- ---- a timer of the changeover ran out

  expired-steps : (timer : ChangeoverTimer) (link : ℕ) (n : Node WholeQueues)
      → R n (complete_if whole c (changeover_of n.parts link).incomplete link None (with_parts n (with_expiry c timer link (barred c link n.parts))))
  expired-steps which.T1 link n =
      let first : Node WholeQueues = bar whole c link n in
      let noted : Node WholeQueues = with_parts first (note (notices.Expired which.T1 link) first.parts) in
      s.both _ _ _ (bar-steps link n)
      (s.both _ _ _ (s.noted (notices.Expired which.T1 link) first (record { other = refl; lost = λ f. absurd cc; late = λ f. absurd cc }))
      (ended-steps (changeover_of n.parts link).incomplete link None (completed (changeover_of n.parts link)) noted refl refl (λ a. a)))
  expired-steps which.T2 link n =
      let st : Standing = changeover_of n.parts link in
      let first : Node WholeQueues = bar whole c link n in
      let loses : Node WholeQueues = with_parts first (flagged first.parts) in
      let noted : Node WholeQueues = with_parts loses (note (expiry_notice c which.T2 st link) loses.parts) in
      let breaks : Node WholeQueues = with_parts noted (broken_if (ends_wait c which.T2 st) noted.parts) in
      s.both _ _ _ (bar-steps link n)
      (s.both _ _ _ (s.lost first)
      (s.both _ _ _ (s.noted (expiry_notice c which.T2 st link) loses (expiry-told c st link loses.parts refl))
      (s.both _ _ _ (broken-steps (ends_wait c which.T2 st) noted)
      (ended-steps st.incomplete link None (expired (bars c) which.T2 st) breaks refl (expired-complete (bars c) st) (expired-awaited (bars c) st)))))

  pub on_changeover_timer-steps : (timer : ChangeoverTimer) (link : ℕ) (n : Node WholeQueues) → R n (on_changeover_timer whole c timer link n)
  on_changeover_timer-steps timer link n =
      let done : Node WholeQueues = complete_if whole c (changeover_of n.parts link).incomplete link None (with_parts n (with_expiry c timer link (barred c link n.parts))) in
      either-steps (sends-of s) (is_link n.parts link) n done n (expired-steps timer link n) (s.none n)

  -- ---- the operator lets a link open

  pub unbarred-steps : (link : ℕ) (n : Node WholeQueues) → is_barred (changeover_of n.parts link) ≡ true → R n (with_parts n (unbarred link n.parts))
  unbarred-steps link n barred =
      let notice : Notice = notices.Unbarred unbarring.Operator link in
      let loses : Node WholeQueues = with_parts n (flagged n.parts) in
      let noted : Node WholeQueues = with_parts loses (note notice loses.parts) in
      let breaks : Node WholeQueues = with_parts noted (broken_if true noted.parts) in
      let stopped : Node WholeQueues = with_parts breaks (record breaks.parts { timers = clear_timer (name.T2 link) breaks.parts.timers }) in
      s.both _ _ _ (s.lost n)
      (s.both _ _ _ (s.noted notice loses (record { other = refl; lost = λ f. refl; late = λ f. absurd cc }))
      (s.both _ _ _ (broken-steps true noted)
      (s.both _ _ _ (s.timed _ breaks (clear-timed (name.T2 link) n.parts.timers (λ l e. cc)))
      (s.answered link (acknowledged (changeover_of n.parts link)) stopped (barred-complete (changeover_of n.parts link) barred) refl (λ a. absurd cc)))))

  -- ---- an order goes out late

  pub asks-steps : (link : ℕ) (n : Node WholeQueues) → is_late c link n.parts ≡ true → R n (order_late whole c link n)
  asks-steps link n late =
      let stands : Node WholeQueues = with_parts n (with_changeover link (with_order (changeover_of n.parts link)) n.parts) in
      let stops : Node WholeQueues = with_parts stands (record stands.parts { timers = clear_timer (name.T1 link) stands.parts.timers }) in
      s.both _ _ _ (s.asked link n (and_parts (is_unasked (changeover_of n.parts link)) (has_way c link n.parts) late).0)
      (s.both _ _ _ (s.timed _ stands (clear-timed (name.T1 link) n.parts.timers (λ l e. cc)))
      (s.both _ _ _ (s.timed _ stops (set-timed (name.T2 link) c.timers.t2 stops.parts.timers (λ l e. cc)))
      (send_routed-steps (sends-of s) (changeover_order c link (whole.last_accepted n.queues link)) (with_parts n (asking c link n.parts)))))
