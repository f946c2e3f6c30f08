-- No timer of a test runs where the node doesn't test its links.
use Rattle.exchange_rules.proofs.Basics.{◌≡◌, ℕ, true, false, List, Option, Some, None, refl, ap, sym, ◌∙◌, is_some, false_from_ne_true as not-so}
use Rattle.exchange_rules.proofs.Definitions.{Configuration, period_of, opening, carries, tests_links, TimerName, Running, is_running, left-none, left-ticked, one_less, due_name, after_due, after-clear, after-none, Node, in_service, changeover_of, is_link, link_at, with_timers, Asking, first_state, after_each, WholeQueues, whole}
use Rattle.timers.specs.declared.name.TimerName.TheVariants as name
use Rattle.exchange_rules.proofs.Steps.{IsOfSends, IsOfRules, is_of_test, moves_links}
use Rattle.exchange_rules.proofs.Asked.{any, asked-all, IsOfAll}
use Rattle.exchange_rules.proofs.SteppingTimers.{ran-before}
use Rattle.exchange_rules.proofs.SteppingEvents.{run_next-steps}
use Rattle.exchange_rules.proofs.LinkTimers.{AreTimedFor, timed-for, timed_sending-for, timed_confirming-for, timed_busy-for, timed_busy_ended-for}
use Rattle.exchange_rules.proofs.Eased.{expired-eased}
use Rattle.exchange_rules.proofs.LinkTimes.{Kept, kept-eased, fails-kept, orders-kept, acknowledges-kept, asks-kept, returns-kept, reroutes-kept}

-- from one node to another no timer of a test starts
record NoneStarts (n m : Node WholeQueues) : Type 0 where
  pub runs : (timer : TimerName) → is_of_test timer ≡ true → is_running timer m.parts.timers ≡ true → is_running timer n.parts.timers ≡ true

same-none : (n m : Node WholeQueues) → m.parts.timers ≡ n.parts.timers → NoneStarts n m
same-none n m e = record { runs = λ timer of runs. sym (ap (λ (r : Running). is_running timer r) e) ∙ runs }

tests-move : (timer : TimerName) → is_of_test timer ≡ true → moves_links timer ≡ true
tests-move (name.Slt1 link) e = refl
tests-move (name.Slt2 link) e = refl
tests-move (name.L1 link) e = absurd cc
tests-move (name.L2 link) e = absurd cc
tests-move (name.L3 link) e = absurd cc
tests-move (name.L4 link) e = absurd cc
tests-move (name.L6 link) e = absurd cc
tests-move (name.L7 link) e = absurd cc
tests-move (name.T1 link) e = absurd cc
tests-move (name.T2 link) e = absurd cc
tests-move (name.T3 link) e = absurd cc
tests-move (name.T4 set code) e = absurd cc
tests-move (name.T6 destination) e = absurd cc
tests-move (name.T8 set destination) e = absurd cc
tests-move (name.T10 set destination) e = absurd cc

was-running : (o p : Option ℕ) → ((x : ℕ) → o ≡ Some x → p ≡ Some x) → is_some o ≡ true → is_some p ≡ true
was-running None p f e = absurd cc
was-running (Some x) p f e = ap is_some (f x refl)

kept-none : (n m : Node WholeQueues) → Kept n m → NoneStarts n m
kept-none n m e = record {
  runs = λ timer of runs. was-running (m.parts.timers.left timer) (n.parts.timers.left timer) (λ x h. e.timers timer (tests-move timer of) x h) runs;
}

for-none : (link : ℕ) (n m : Node WholeQueues) → AreTimedFor link n.parts.timers m.parts.timers → NoneStarts n m
for-none link n m e = record { runs = e.tests }

module _ (c : Configuration) (off : tests_links c ≡ false) where
  none-sends : IsOfSends c NoneStarts
  none-sends = record {
    none = λ n. same-none n n refl;
    both = λ n m o e f. record { runs = λ timer of runs. e.runs timer of (f.runs timer of runs) };
    routed = λ link m n e. same-none n _ refl;
    noted = λ notice n e. same-none n _ refl;
    lost = λ notice n e. same-none n _ refl;
    counted = λ messages broken n. same-none n _ refl;
  }

  none-rules : IsOfRules c any any NoneStarts
  none-rules = record {
    sends = none-sends;
    tested = λ link point test n e f. same-none n _ refl;
    probed = λ link n e. same-none n _ refl;
    held = λ m n e. same-none n _ refl;
    taken_out = λ n. same-none n _ refl;
    late = λ notice n e. same-none n _ refl;
    timed = λ r n e k. record { runs = e.tests off };
    rerouted = λ routes n e k. same-none n _ refl;
    told = λ t n e. same-none n _ refl;
    titled = λ rows n may. same-none n _ refl;
    unequipped = λ counts n e may. same-none n _ refl;
    linked = λ link x n e o. same-none n _ refl;
    parted = λ link n e. same-none n _ refl;
    opened = λ link n own there e f may. for-none link n _ (timed-for link c (opening (period_of c link n.parts)) n.parts.timers);
    stepped = λ link input step n own e k. for-none link n _ (timed-for link c step n.parts.timers);
    passed = λ link n e k. same-none n _ refl;
    busied = λ link n own e f. for-none link n _ (timed_busy-for link c n.parts.timers);
    resumed = λ link n own e f o. for-none link n _ (timed_busy_ended-for link c (whole.outstanding n.queues link) n.parts.timers);
    accepted = λ link d confirmed n own e f. for-none link n _
        (timed_confirming-for link c (link_at n.parts link).peer_busy confirmed (whole.outstanding (whole.accepted n.queues link d.fsn d.bsn (carries d)) link) n.parts.timers);
    sent = λ link next n own e. for-none link n _ (timed_sending-for link c n.parts.timers);
    put = λ link n set e busy. same-none n _ refl;
    back = λ link n out may. same-none n _ refl;
    fails = λ link why n may up. kept-none n _ (fails-kept c (in_service n.parts link) link why n);
    orders = λ link number n falls ends. kept-none n _ (orders-kept c link number n);
    acknowledges = λ link number n may wait. kept-none n _ (acknowledges-kept c (changeover_of n.parts link).awaited link number n);
    expires = λ expiry link n may wait. kept-none n _ (kept-eased n _ (expired-eased c (is_link n.parts link) expiry link n));
    releases = λ link n e wait. record { runs = λ timer of runs. ran-before (name.T2 link) timer n.parts.timers runs };
    asks = λ link n e. kept-none n _ (asks-kept c link n);
    returns = λ before after code link other n e f. kept-none n _ (returns-kept c before after code link other n);
    frees = λ set code n may. record { runs = λ timer of runs. ran-before (name.T4 set code) timer n.parts.timers runs };
    reroutes = λ destination selections n. kept-none n _ (reroutes-kept c destination selections n);
    lifts = λ procedure n may. same-none n _ refl;
  }

  lowered : (o : Option ℕ) → is_some (one_less o) ≡ true → is_some o ≡ true
  lowered None e = e
  lowered (Some x) e = refl

  handed-none : (due : Option TimerName) (n : Node WholeQueues) → due_name n.parts.timers ≡ due → NoneStarts n (with_timers n (after_due n.parts.timers))
  handed-none None n e = same-none n _ (after-none n.parts.timers e)
  handed-none (Some its) n e = record {
    runs = λ timer of runs. ran-before its timer n.parts.timers (sym (ap (λ (r : Running). is_running timer r) (after-clear its n.parts.timers e)) ∙ runs);
  }

  none-all : IsOfAll c NoneStarts
  none-all = record {
    rules = none-rules;
    ticks = λ n. record { runs = λ timer of runs. lowered (n.parts.timers.left timer) (sym (ap is_some (left-ticked timer n.parts.timers)) ∙ runs) };
    next = λ n. run_next-steps none-rules n (handed-none (due_name n.parts.timers) n refl) (λ link. tt);
  }

pub no-tests : (c : Configuration) (asked : List Asking) → tests_links c ≡ false → (timer : TimerName) → is_of_test timer ≡ true
    → is_running timer (after_each asked (first_state c)).node.parts.timers ≡ false
no-tests c asked off timer of =
    not-so (is_running timer (after_each asked (first_state c)).node.parts.timers)
    (λ runs. (let no : false ≡ true =
    sym (ap is_some (left-none timer (first_state c).node.parts.timers.counts))
    ∙ (asked-all (none-all c off) asked (first_state c) refl).runs timer of runs in cc))
