-- Every event leaves the links that it isn't about, and every take the queues of other links.
use Rattle.exchange_rules.proofs.Basics.{◌≡◌, ◌≢◌, ℕ, zero, suc, Bool, true, false, ◌||◌, nat_eq, Some, None, refl, ap, sym, subst, ◌∙◌, arith, list_any, nat_tests, get_or-set_other}
use Rattle.exchange_rules.proofs.Definitions.{flow_of, Configuration, LinkTimer, first_queue, sent_one, TimerName, Running, is_due, no_tick_left, ticked, due_name, after_due, due_count, due-left, after-clear, after-none, Parts, Node, timer_name, with_timers, run_next, run_times, tick, Happening, CameUp, WentDown, FrameCame, Ticked, Submitted, Activated, Deactivated, TitleAdded, TitleSet, TitleRemoved, Outgoing, SendsStatus, SendsMessage, Acknowledges, SendsNothing, goes_out, after_sending, WholeQueues, queue_at, whole, run_all, subsystems_ticked, Released}
use Rattle.link.specs.declared.action.LinkTimer.TheVariants as timer
use Rattle.exchange_rules.specs.Touching.{link_timers, runs_out, some_runs_out, is_about, other_links_are_left, takes_leave_other_queues}
use Rattle.exchange_rules.proofs.LeavingMessages.{chosen_serves}
use Rattle.exchange_rules.proofs.SteppingTimers.{due-clear}
use Rattle.exchange_rules.proofs.LinkTimers.{timed-for, timed_busy-for, timed_busy_ended-for}
use Rattle.exchange_rules.proofs.OnLink.{link-on, opened-on, accepted-on, sent-on}
use Rattle.exchange_rules.proofs.LeftLinks.{Left, same-left, both-left, both-lefts, alike, other-left, queued-left, failed-left, dropped-left, completed-left, answered-left, linked-left, asked-left}
use Rattle.exchange_rules.proofs.Steps.{IsOfSteps}
use Rattle.exchange_rules.proofs.SteppingEvents.{IsOf, run_due-steps, apply-steps}
use Rattle.exchange_rules.proofs.Rules.{rules-of}

-- any link but this
abbrev pub but : ℕ → ℕ → Type 0
but l k = k ≢ l

module _ (dues : Bool) (c : Configuration) (l : ℕ) where
  pub left-steps : IsOfSteps c (but l) (but l) (Left dues l)
  left-steps = record {
    none = λ n. record { due = λ x name h. h; left = same-left l n n refl refl refl };
    both = both-lefts dues l;
    routed = λ link m n e. queued-left dues l c link m n (chosen_serves c n.parts (flow_of m) link e);
    declared = λ link other code n e f. queued-left dues l c other _ n f;
    tested = λ link point test n e f. queued-left dues l c link _ n e;
    probed = λ link n e. queued-left dues l c link _ n e;
    held = λ m n e. alike dues l n _ refl refl refl (λ name h. h);
    taken_out = λ n. alike dues l n _ refl refl refl (λ name h. h);
    noted = λ notice n e. alike dues l n _ refl refl refl (λ name h. h);
    lost = λ n. alike dues l n _ refl refl refl (λ name h. h);
    counted = λ messages broken n. alike dues l n _ refl refl refl (λ name h. h);
    asked = λ link n e. asked-left dues l link n e;
    late = λ n. alike dues l n _ refl refl refl (λ name h. h);
    timed = λ r n e. alike dues l n _ refl refl refl e.due;
    holding = λ h n e. alike dues l n _ refl refl refl (λ name h. h);
    coded = λ set code awaited n. alike dues l n _ refl refl refl (λ name h. h);
    rerouted = λ routes n e. alike dues l n _ refl refl refl (λ name h. h);
    told = λ t n e. alike dues l n _ refl refl refl (λ name h. h);
    titled = λ rows n. alike dues l n _ refl refl refl (λ name h. h);
    unequipped = λ counts n e. alike dues l n _ refl refl refl (λ name h. h);
    failed = λ link why st n e f. failed-left dues l link why st n e;
    dropped = λ link why n e. dropped-left dues l link why n e;
    completed = λ link number st n e f. completed-left dues l link number st n e f;
    answered = λ link st n e f w. answered-left dues l link st n e f;
    linked = λ link x n e o. linked-left dues l link x n e.alignment;
    parted = λ link n e. linked-left dues l link _ n refl;
    opened = λ link n own there e f. other-left dues l link _ _ _ n _ (opened-on link c n) own;
    stepped = λ link input step n own e. other-left dues l link _ _ _ n _ (link-on link _ _ n (timed-for link c step n.parts.timers)) own;
    passed = λ link n e. linked-left dues l link _ n refl;
    busied = λ link n own e f. other-left dues l link _ _ _ n _ (link-on link _ _ n (timed_busy-for link c n.parts.timers)) own;
    resumed = λ link n own e f.
        other-left dues l link _ _ _ n _ (link-on link _ _ n (timed_busy_ended-for link c (whole.outstanding n.queues link) n.parts.timers)) own;
    accepted = λ link d confirmed n own e f. other-left dues l link _ _ _ n _ (accepted-on link c d confirmed n) own;
    sent = λ link next n own e. other-left dues l link _ _ _ n _ (sent-on link c next n) own;
  }

-- ---- a tick at which no timer of the link runs out

either-none : (a b : Bool) → (a || b) ≡ false → a ≡ false
either-none false b e = refl
either-none true b e = absurd cc

both-none : (a b : Bool) → (a || b) ≡ false → b ≡ false
both-none false b e = e
both-none true b e = absurd cc

none-runs : (f : LinkTimer → Bool) → list_any f link_timers ≡ false → (t : LinkTimer) → f t ≡ false
none-runs f e timer.L1 = either-none _ _ e
none-runs f e timer.L2 = either-none _ _ (both-none (f timer.L1) _ e)
none-runs f e timer.L3 = either-none _ _ (both-none (f timer.L2) _ (both-none (f timer.L1) _ e))
none-runs f e timer.L4 = either-none _ _ (both-none (f timer.L3) _ (both-none (f timer.L2) _ (both-none (f timer.L1) _ e)))
none-runs f e timer.L6 = either-none _ _ (both-none (f timer.L4) _ (both-none (f timer.L3) _ (both-none (f timer.L2) _ (both-none (f timer.L1) _ e))))
none-runs f e timer.L7 =
    either-none _ _ (both-none (f timer.L6) _ (both-none (f timer.L4) _ (both-none (f timer.L3) _ (both-none (f timer.L2) _ (both-none (f timer.L1) _ e)))))

due-after : (r : Running) (name : TimerName) → is_due (after_due r) name ≡ true → is_due r name ≡ true
due-after r name e =
    elim (due_name r) as (λ o. due_name r ≡ o → is_due r name ≡ true) [
      | Some it ↦ λ f. due-clear it name r (sym (ap (λ (s : Running). is_due s name) (after-clear it r f)) ∙ e)
      | None ↦ λ f. sym (ap (λ (s : Running). is_due s name) (after-none r f)) ∙ e
    ] refl

module _ (c : Configuration) (l : ℕ) where
  handed_out-left : (n : Node WholeQueues) → Left true l n (with_timers n (after_due n.parts.timers))
  handed_out-left n = alike true l n _ refl refl refl (due-after n.parts.timers)

  -- the timer that is handed out is none of the link's, as none of these was due when the tick began
  module _ (begun : Node WholeQueues) (none : (t : LinkTimer) → is_due begun.parts.timers (timer_name l t) ≡ false) where
    run_next-left : (n : Node WholeQueues) → Left true l begun n → Left true l n (run_next whole c n)
    run_next-left n h =
        both-lefts true l n _ _ (handed_out-left n)
        (run_due-steps (rules-of (left-steps true c l)) (due_name n.parts.timers) (with_timers n (after_due n.parts.timers))
        (λ link its e same.
        let due : is_due n.parts.timers (timer_name link its) ≡ true = ap no_tick_left (due-left (timer_name link its) n.parts.timers e) in
        let was : is_due begun.parts.timers (timer_name l its) ≡ true =
        h.due refl (timer_name l its) (subst (λ (k : ℕ). is_due n.parts.timers (timer_name k its) ≡ true) same due) in
        let no : true ≡ false = sym was ∙ none its in
        cc))

    run_times-left : (many : ℕ) (n : Node WholeQueues) → Left true l begun n → Left true l begun (run_times whole c many n)
    run_times-left zero n h = h
    run_times-left (suc more) n h = run_times-left more (run_next whole c n) (both-lefts true l begun n _ h (run_next-left n h))

  tick-left : (n : Node WholeQueues) → some_runs_out n.parts l ≡ false → Left false l n (tick whole c n).left
  tick-left n e =
      let begun : Node WholeQueues = with_timers n (ticked n.parts.timers) in
      let ran : Left true l begun (run_times whole c (due_count begun.parts.timers) begun) =
      run_times-left begun (none-runs (runs_out n.parts l) e) (due_count begun.parts.timers) begun ((left-steps true c l).none begun) in
      let timed : Node WholeQueues = run_all whole c begun in
      let counted : Left true l begun (tick whole c n).left =
      both-lefts true l begun timed _ ran ((left-steps true c l).titled (subsystems_ticked c timed.parts).titles timed) in
      record { due = λ x. absurd cc; left = both-left l n begun _ (same-left l n begun refl refl refl) counted.left }

-- ---- events

not-its : (its l : ℕ) → nat_eq its l ≡ false → its ≢ l
not-its its l e same = grind (arith, nat_tests, e, same)

not-about : (what : Happening) (p : Parts) (l : ℕ) → is_about what p l ≡ false → (link : ℕ) → IsOf what link → link ≢ l
not-about (CameUp its) p l e link of same = not-its its l e (sym of ∙ same)
not-about (FrameCame its text) p l e link of same = not-its its l e (sym of ∙ same)
not-about (WentDown its) p l e link of same = of
not-about Ticked p l e link of same = of
not-about (Submitted message) p l e link of same = of
not-about (Activated its emergency) p l e link of same = of
not-about (Deactivated its) p l e link of same = of
not-about (Released its) p l e link of same = of
not-about (TitleAdded row refused) p l e link of same = of
not-about (TitleSet row refused) p l e link of same = of
not-about (TitleRemoved key digits) p l e link of same = of

pub others-left : other_links_are_left
others-left what a l e =
    (apply-steps (rules-of (left-steps false a.settings l)) what a.node (not-about what a.node.parts l e) (not-about what a.node.parts l e)
    (λ is. tick-left a.settings l a.node (sym (ap (λ (w : Happening). is_about w a.node.parts l) is) ∙ e))).left

-- ---- takes

sending-leaves : (c : Configuration) (link other : ℕ) (out : Outgoing) (n : Node WholeQueues) → other ≢ link
    → queue_at (after_sending whole c link n out).queues other ≡ queue_at n.queues other
sending-leaves c link other (SendsStatus status) n apart = refl
sending-leaves c link other (SendsMessage next) n apart = get_or-set_other n.queues.links link other (sent_one (queue_at n.queues link) c.window) first_queue apart
sending-leaves c link other Acknowledges n apart = refl
sending-leaves c link other SendsNothing n apart = refl

pub takes-leave : takes_leave_other_queues
takes-leave a link other apart = sending-leaves a.settings link other (goes_out whole a.settings link a.node) a.node apart
