-- Whatever an exchange is asked, each link stays steady: a timer L7 that runs out fails its link, so that it is exact
-- again.
use Rattle.exchange_rules.proofs.Basics.{◌≡◌, ◌<◌, ℕ, ◌-◌, Bool, true, false, ◌&&◌, not, List, length, Option, Some, None, Ok, refl, ap, sym, subst, ◌∙◌, if◌then◌else◌, is_some, get_or-set_same}
use Rattle.exchange_rules.proofs.Definitions.{Period, period_of, Configuration, flow_of, Alignment, Action, Expiry, action_at, opening, Queue, Sending, first_queue, NodeCounts, TimerName, L7, is_same, Running, is_running, one_less, ticked, due_name, after_due, left-clear, left-clear_other, left-ticked, counts-after, after-clear, after-none, Link, down_link, is_in_service, opened_by, after_failure, Standing, may_restart, Node, link_at, in_service, changeover_of, fail, Carrying, carries, numbers, may_open, open_link, SendsMessage, may_send, next_message, after_sending, act_by_timer, run_out, with_timers, run_due, run_next, WholeQueues, queue_at, whole, is_l7_running}
use Rattle.signalling_types.specs.declared.notice.FailureReason.TheVariants as reasons
use Rattle.link.specs.declared.alignment.Alignment.TheVariants.{Down, NotAligned, Aligned, Proving, AlignedReady, InService}
use Rattle.link.specs.declared.action.Action.TheVariants as act
use Rattle.link.specs.declared.action.LinkTimer.TheVariants as timer
use Rattle.link.specs.Queue as queue
use Rattle.timers.proofs.Same.{same_is, is_itself}
use Rattle.exchange_rules.proofs.LeavingMessages.{chosen_serves}
use Rattle.exchange_rules.proofs.WatchedLink.{l7-timed, l7-confirming, l7-sending}
use Rattle.exchange_rules.proofs.OnLink.{opened-on, accepted-on, sent-on}
use Rattle.exchange_rules.proofs.SteadyLinks.{exact-idle, run-out, stands-opened}
use Rattle.exchange_rules.proofs.SteadyChanges.{stands-accepted, stands-sent}
use Rattle.exchange_rules.proofs.SteadySteps.{At, Keeps, stands-as, on-link, queued-keeps, failed-keeps, dropped-keeps, completed-keeps, answered-keeps, linked-keeps, parted-keeps, passed-keeps, stepped-keeps, busied-keeps, resumed-keeps, asked-keeps}
use Rattle.exchange_rules.proofs.Steps.{confirming, IsOfSteps}
use Rattle.exchange_rules.proofs.Asked.{any}
use Rattle.exchange_rules.proofs.SteppingFailures.{fail-links, fail-steps}
use Rattle.exchange_rules.proofs.SteppingEvents.{run_timer-steps}
use Rattle.exchange_rules.proofs.Rules.{rules-of}

not-associated : (association active : Bool) → (not association && active) ≡ true → association ≡ false
not-associated true active e = absurd cc
not-associated false active e = refl

-- a message that goes out next
sends : (may : Bool) (o : Option Sending) (next : Sending) → (if may then o else None) ≡ Some next → may ≡ true
sends true o next e = refl
sends false o next e = absurd cc

sends-it : (may : Bool) (o : Option Sending) (next : Sending) → (if may then o else None) ≡ Some next → o ≡ Some next
sends-it true o next e = e
sends-it false o next e = absurd cc

module _ (exact : Bool) (c : Configuration) (l : ℕ) where
  -- links, changeovers and queues are what they were, and so is whether this L7 runs
  alike : (n m : Node WholeQueues) → m.parts.links ≡ n.parts.links → m.parts.changeovers ≡ n.parts.changeovers → m.queues.links ≡ n.queues.links
      → m.parts.timers.counts ≡ n.parts.timers.counts → is_l7_running m l ≡ is_l7_running n l → Keeps exact c l n m
  alike n m e f g k r = record {
    stay = λ h. record {
      there = subst (λ (xs : List Link). l < length xs) (sym e) h.there;
      changes_over = subst (λ (xs : List Standing). l < length xs) (sym f) h.changes_over;
      queues = subst (λ (xs : List Queue). l < length xs) (sym g) h.queues;
      named = subst (λ (x : NodeCounts). l < x.links) (sym k) h.named;
      stands = stands-as exact c _ _ _ _ _ _ _ _ (ap (λ (xs : List Link). link_at (record n.parts { links = xs }) l) e)
          (ap (λ (xs : List Standing). changeover_of (record n.parts { changeovers = xs }) l) f)
          (ap (λ (xs : List Queue). queue_at (record n.queues { links = xs }) l) g) r h.stands;
    };
  }

  opened-keeps : (k : ℕ) (n : Node WholeQueues) → may_open (link_at n.parts k) ≡ true → may_restart (changeover_of n.parts k) ≡ true
      → Keeps exact c l n (open_link whole c k n)
  opened-keeps k n e f =
      on-link exact c l k (opened_by c (period_of c k n.parts) (link_at n.parts k)) (changeover_of n.parts k) first_queue n (open_link whole c k n)
      (opened-on k c n)
      (λ h. stands-as exact c _ _ _ _ _ _ _ _ refl refl refl (l7-timed k c (opening (period_of c k n.parts)) n.parts.timers refl refl)
      (stands-opened exact c.window _ _ _ _ h.stands c.out_of_service (not-associated (link_at n.parts k).association (link_at n.parts k).active e) f))

  accepted-keeps : (k : ℕ) (d : Carrying) (count : ℕ) (n : Node WholeQueues) → in_service n.parts k ≡ true → numbers whole c k d n ≡ Ok count
      → Keeps exact c l n (confirming c k d count n)
  accepted-keeps k d count n e f =
      let q : Queue = queue.accepted (queue_at n.queues k) d.fsn d.bsn (carries d) in
      let left : ℕ = whole.outstanding (whole.accepted n.queues k d.fsn d.bsn (carries d)) k in
      let busy : Bool = (link_at n.parts k).peer_busy in
      on-link exact c l k (link_at n.parts k) (changeover_of n.parts k) q n (confirming c k d count n)
      (accepted-on k c d count n)
      (λ h. stands-as exact c _ _ _ _ _ _ _ _ refl refl refl (l7-confirming k c busy count left n.parts.timers h.named)
      (stands-accepted exact c.window _ _ _ _ h.stands e d.fsn d.bsn count left (carries d) f
      (ap (λ (x : Queue). x.sent - x.confirmed) (get_or-set_same n.queues.links k q first_queue h.queues))))

  sent-keeps : (k : ℕ) (next : Sending) (n : Node WholeQueues) → next_message whole c k n ≡ Some next → Keeps exact c l n (after_sending whole c k n (SendsMessage next))
  sent-keeps k next n e =
      let q : Queue = queue.sent_one (queue_at n.queues k) c.window in
      let x : Link = record (link_at n.parts k) { acknowledgement_owed = false } in
      let may : Bool = may_send (link_at n.parts k) in
      let o : Option Sending = whole.to_send n.queues k c.window in
      on-link exact c l k x (changeover_of n.parts k) q n (after_sending whole c k n (SendsMessage next))
      (sent-on k c next n)
      (λ h. stands-as exact c _ _ _ _ _ _ _ _ refl refl refl (l7-sending k c n.parts.timers h.named)
      (stands-sent exact c.window _ _ _ _ h.stands next (sends may o next e) (sends-it may o next e)))

  pub steady-steps : IsOfSteps c any any (Keeps exact c l)
  steady-steps = record {
    none = λ n. record { stay = λ h. h };
    both = λ n m o e f. record { stay = λ h. f.stay (e.stay h) };
    routed = λ link m n e. queued-keeps exact c l link m n (chosen_serves c n.parts (flow_of m) link e);
    declared = λ link other code n e f. queued-keeps exact c l other _ n f;
    tested = λ link point test n e f. queued-keeps exact c l link _ n e;
    probed = λ link n e. queued-keeps exact c l link _ n e;
    held = λ m n e. alike n _ refl refl refl refl refl;
    taken_out = λ n. alike n _ refl refl refl refl refl;
    noted = λ notice n e. alike n _ refl refl refl refl refl;
    lost = λ n. alike n _ refl refl refl refl refl;
    counted = λ messages broken n. alike n _ refl refl refl refl refl;
    asked = λ link n e. asked-keeps exact c l link n e;
    late = λ n. alike n _ refl refl refl refl refl;
    timed = λ r n e. alike n _ refl refl refl e.counts (e.watching l);
    holding = λ h n e. alike n _ refl refl refl refl refl;
    coded = λ set code awaited n. alike n _ refl refl refl refl refl;
    rerouted = λ routes n e. alike n _ refl refl refl refl refl;
    told = λ t n e. alike n _ refl refl refl refl refl;
    titled = λ rows n. alike n _ refl refl refl refl refl;
    unequipped = λ counts n e. alike n _ refl refl refl refl refl;
    failed = λ link why st n e f. failed-keeps exact c l link why st n f;
    dropped = λ link why n e. dropped-keeps exact c l link why n e;
    completed = λ link number st n e f. completed-keeps exact c l link number st n e f;
    answered = λ link st n e f w. answered-keeps exact c l link st n e f w;
    linked = λ link x n e o. linked-keeps exact c l link x n e;
    parted = λ link n e. parted-keeps exact c l link n e;
    opened = λ link n own there e f. opened-keeps link n e f;
    stepped = λ link input step n own e. stepped-keeps exact c l link input step n e;
    passed = λ link n e. passed-keeps exact c l link n;
    busied = λ link n own e f. busied-keeps exact c l link n e;
    resumed = λ link n own e f. resumed-keeps exact c l link n e f;
    accepted = λ link d confirmed n own e f. accepted-keeps link d confirmed n e f;
    sent = λ link next n own e. sent-keeps link next n e;
  }

-- ---- a tick

still-running : (o : Option ℕ) → is_some (one_less o) ≡ is_some o
still-running None = refl
still-running (Some n) = refl

pub ticked-keeps : (c : Configuration) (l : ℕ) (n : Node WholeQueues) → Keeps true c l n (with_timers n (ticked n.parts.timers))
ticked-keeps c l n = alike true c l n _ refl refl refl refl (ap is_some (left-ticked (L7 l) n.parts.timers) ∙ still-running (n.parts.timers.left (L7 l)))

-- ---- L7 of a link runs out

l7-action : (period : Period) (a : Alignment) → action_at period a (Expiry timer.L7) ≡ (if is_in_service a then act.Fail else act.Ignored)
l7-action period Down = refl
l7-action period NotAligned = refl
l7-action period Aligned = refl
l7-action period (Proving true) = refl
l7-action period (Proving false) = refl
l7-action period AlignedReady = refl
l7-action period InService = refl

module _ (c : Configuration) (l : ℕ) where
  -- a link out of service is exact
  exact-at : (n : Node WholeQueues) → in_service n.parts l ≡ false → At false c l n → At true c l n
  exact-at n e h = record {
    there = h.there;
    changes_over = h.changes_over;
    queues = h.queues;
    named = h.named;
    stands = exact-idle false true c.window _ _ _ _ e h.stands;
  }

  -- so it is once it failed
  failed-at : (n : Node WholeQueues) → At false c l n → At true c l (fail whole c l reasons.Timer n)
  failed-at n h =
      let next : Node WholeQueues = fail whole c l reasons.Timer n in
      let down : in_service next.parts l ≡ false =
      ap (λ (links : List Link). in_service (record n.parts { links = links }) l) (fail-links c l reasons.Timer n)
      ∙ ap (λ (x : Link). is_in_service x.alignment) (get_or-set_same n.parts.links l (after_failure (link_at n.parts l)) down_link h.there) in
      exact-at next down ((fail-steps (steady-steps false c l) l reasons.Timer n).stay h)

  l7-failed : (serves : Bool) (n : Node WholeQueues) → in_service n.parts l ≡ serves → At false c l n → At true c l (act_by_timer whole c (if serves then act.Fail else act.Ignored) l n)
  l7-failed true n e h = failed-at n h
  l7-failed false n e h = exact-at n e h

  l7-runs_out : (n : Node WholeQueues) → At false c l n → At true c l (run_out whole c l timer.L7 n)
  l7-runs_out n h =
      subst (λ (a : Action). At true c l (act_by_timer whole c a l n)) (sym (l7-action (link_at n.parts l).period (link_at n.parts l).alignment)) (l7-failed (in_service n.parts l) n refl h)

  -- it was handed out, and doesn't run
  l7-gone : (n : Node WholeQueues) → due_name n.parts.timers ≡ Some (L7 l) → At true c l n → At false c l (with_timers n (after_due n.parts.timers))
  l7-gone n e h = record {
    there = h.there;
    changes_over = h.changes_over;
    queues = h.queues;
    named = subst (λ (x : NodeCounts). l < x.links) (sym (counts-after n.parts.timers)) h.named;
    stands = stands-as false c _ _ _ _ _ _ _ _ refl refl refl
        (ap (λ (r : Running). is_running (L7 l) r) (after-clear (L7 l) n.parts.timers e) ∙ ap is_some (left-clear (L7 l) n.parts.timers))
        (run-out c.window _ _ _ _ h.stands);
  }

  -- another was handed out
  other-gone : (name : TimerName) (n : Node WholeQueues) → due_name n.parts.timers ≡ Some name → is_same name (L7 l) ≡ false
      → Keeps true c l n (with_timers n (after_due n.parts.timers))
  other-gone name n e apart =
      alike true c l n _ refl refl refl (counts-after n.parts.timers)
      (ap (λ (r : Running). is_running (L7 l) r) (after-clear name n.parts.timers e)
      ∙ ap is_some (left-clear_other name (L7 l) n.parts.timers (λ f. no-way (sym (ap (λ (x : TimerName). is_same x (L7 l)) f ∙ is_itself (L7 l)) ∙ apart))))
    where
      no-way : true ≡ false → ⊥
      no-way e = cc

  handed_out-keeps : (same : Bool) (name : TimerName) (n : Node WholeQueues) → due_name n.parts.timers ≡ Some name → is_same name (L7 l) ≡ same
      → Keeps true c l n (run_due whole c (Some name) (with_timers n (after_due n.parts.timers)))
  handed_out-keeps true name n e f =
      let is : L7 l ≡ name = sym (same_is name (L7 l) f) in
      let next : Node WholeQueues = with_timers n (after_due n.parts.timers) in
      subst (λ (x : TimerName). Keeps true c l n (run_due whole c (Some x) next)) is
      (record { stay = λ h. l7-runs_out next (l7-gone n (e ∙ ap Some (sym is)) h) })
  handed_out-keeps false name n e f =
      let next : Node WholeQueues = with_timers n (after_due n.parts.timers) in
      record { stay = λ h. (run_timer-steps (rules-of (steady-steps true c l)) name next (λ link its e. tt)).stay ((other-gone name n e f).stay h) }

  due-keeps : (due : Option TimerName) (n : Node WholeQueues) → due_name n.parts.timers ≡ due
      → Keeps true c l n (run_due whole c due (with_timers n (after_due n.parts.timers)))
  due-keeps None n e =
      alike true c l n _ refl refl refl (counts-after n.parts.timers) (ap (λ (r : Running). is_running (L7 l) r) (after-none n.parts.timers e))
  due-keeps (Some name) n e = handed_out-keeps (is_same name (L7 l)) name n e refl

  pub run_next-keeps : (n : Node WholeQueues) → Keeps true c l n (run_next whole c n)
  run_next-keeps n = due-keeps (due_name n.parts.timers) n refl
