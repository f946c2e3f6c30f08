-- A tick hands out all timers that are due, and makes none due: afterwards none is.
use Rattle.exchange_rules.proofs.Basics.{◌≡◌, ◌≢◌, ◌≤◌, ℕ, zero, suc, Bool, true, false, cond, List, [], ◌∷◌, length, filter, Option, Some, None, refl, ap, sym, ◌∙◌, arith}
use Rattle.exchange_rules.proofs.Definitions.{period_of, Configuration, opening, carries, TimerName, Running, NodeCounts, is_due, due_name, after_due, after-clear, after-none, Node, link_at, with_timers, run_due, run_next, run_times, WholeQueues, whole}
use Rattle.timers.specs.Timers.{names_of, due_count}
use Rattle.timers.proofs.Dues.{count-after, count-none, due-none}
use Rattle.exchange_rules.proofs.Steps.{IsOfSteps}
use Rattle.exchange_rules.proofs.SteppingTimers.{due-clear}
use Rattle.exchange_rules.proofs.Rules.{rules-of}
use Rattle.exchange_rules.proofs.Asked.{any}
use Rattle.exchange_rules.proofs.LinkTimers.{timed-for, without_timers-for, timed_busy-for, timed_busy_ended-for, timed_confirming-for, timed_sending-for}
use Rattle.exchange_rules.proofs.SteppingEvents.{run_due-steps}

-- the same timers are there, and none becomes due
pub record Dues (n m : Node WholeQueues) : Type 0 where
  pub counts : m.parts.timers.counts ≡ n.parts.timers.counts
  pub due : (timer : TimerName) → is_due m.parts.timers timer ≡ true → is_due n.parts.timers timer ≡ true

same-dues : (n m : Node WholeQueues) → m.parts.timers ≡ n.parts.timers → Dues n m
same-dues n m e = record {
  counts = ap (λ (r : Running). r.counts) e;
  due = λ timer h. sym (ap (λ (r : Running). is_due r timer) e) ∙ h;
}

pub dues-steps : (c : Configuration) → IsOfSteps c any any Dues
dues-steps c = record {
  none = λ n. same-dues n n refl;
  both = λ n m o e f. record { counts = f.counts ∙ e.counts; due = λ timer h. e.due timer (f.due timer h) };
  routed = λ link m n e. same-dues n _ refl;
  declared = λ link other code n e f. same-dues n _ refl;
  tested = λ link point test n e f. same-dues n _ refl;
  probed = λ link n e. same-dues n _ refl;
  held = λ m n e. same-dues n _ refl;
  taken_out = λ n. same-dues n _ refl;
  noted = λ notice n e. same-dues n _ refl;
  lost = λ n. same-dues n _ refl;
  counted = λ messages broken n. same-dues n _ refl;
  asked = λ link n e. same-dues n _ refl;
  late = λ n. same-dues n _ refl;
  timed = λ r n e. record { counts = e.counts; due = e.due };
  holding = λ h n e. same-dues n _ refl;
  coded = λ set code awaited n. same-dues n _ refl;
  rerouted = λ routes n e. same-dues n _ refl;
  told = λ t n e. same-dues n _ refl;
  titled = λ rows n. same-dues n _ refl;
  unequipped = λ counts n e. same-dues n _ refl;
  failed = λ link why st n e f. (let t = without_timers-for link n.parts.timers in record { counts = t.counts; due = t.due });
  dropped = λ link why n e. (let t = without_timers-for link n.parts.timers in record { counts = t.counts; due = t.due });
  completed = λ link number st n e f. same-dues n _ refl;
  answered = λ link st n e f w. same-dues n _ refl;
  linked = λ link x n e o. same-dues n _ refl;
  parted = λ link n e. same-dues n _ refl;
  opened = λ link n own there e f. (let t = timed-for link c (opening (period_of c link n.parts)) n.parts.timers in record { counts = t.counts; due = t.due });
  stepped = λ link input step n own e. (let t = timed-for link c step n.parts.timers in record { counts = t.counts; due = t.due });
  passed = λ link n e. same-dues n _ refl;
  busied = λ link n own e f. (let t = timed_busy-for link c n.parts.timers in record { counts = t.counts; due = t.due });
  resumed = λ link n own e f. (let t = timed_busy_ended-for link c (whole.outstanding n.queues link) n.parts.timers in record { counts = t.counts; due = t.due });
  accepted = λ link d confirmed n own e f.
      (let t = timed_confirming-for link c (link_at n.parts link).peer_busy confirmed (whole.outstanding (whole.accepted n.queues link d.fsn d.bsn (carries d)) link) n.parts.timers in
      record { counts = t.counts; due = t.due });
  sent = λ link next n own e. (let t = timed_sending-for link c n.parts.timers in record { counts = t.counts; due = t.due });
}

-- ---- a timer that is handed out

handed-due : (due : Option TimerName) (r : Running) → due_name r ≡ due → (its : TimerName) → is_due (after_due r) its ≡ true → is_due r its ≡ true
handed-due None r e its f = sym (ap (λ (t : Running). is_due t its) (after-none r e)) ∙ f
handed-due (Some one) r e its f = due-clear one its r (sym (ap (λ (t : Running). is_due t its) (after-clear one r e)) ∙ f)

pub was-due : (r : Running) (its : TimerName) → is_due (after_due r) its ≡ true → is_due r its ≡ true
was-due r = handed-due (due_name r) r refl

module _ (c : Configuration) (n : Node WholeQueues) where
  pub ran-dues : (its : TimerName) → is_due (run_next whole c n).parts.timers its ≡ true → is_due (after_due n.parts.timers) its ≡ true
  ran-dues its e =
      let ran : Dues (with_timers n (after_due n.parts.timers)) (run_next whole c n) =
      run_due-steps (rules-of (dues-steps c)) (due_name n.parts.timers) (with_timers n (after_due n.parts.timers)) (λ link t f. tt) in
      ran.due its e

  pub next-dues : (its : TimerName) → is_due (run_next whole c n).parts.timers its ≡ true → is_due n.parts.timers its ≡ true
  next-dues its e = was-due n.parts.timers its (ran-dues its e)

-- ---- how many are due

one-more : (p q : TimerName → Bool) (x : TimerName) (xs : List TimerName) (b d : Bool) → (b ≡ true → d ≡ true) → length (filter p xs) ≤ length (filter q xs)
    → length (cond b (x ∷ filter p xs) (filter p xs)) ≤ length (cond d (x ∷ filter q xs) (filter q xs))
one-more p q x xs true true h l = omega (arith, l)
one-more p q x xs true false h l = (let no : false ≡ true = h refl in absurd cc)
one-more p q x xs false true h l = omega (arith, l)
one-more p q x xs false false h l = l

fewer : (p q : TimerName → Bool) (xs : List TimerName) → ((x : TimerName) → p x ≡ true → q x ≡ true) → length (filter p xs) ≤ length (filter q xs)
fewer p q [] h = omega arith
fewer p q (x ∷ xs) h = one-more p q x xs (p x) (q x) (h x) (fewer p q xs h)

pub no-more-due : (r s : Running) → s.counts ≡ r.counts → ((timer : TimerName) → is_due s timer ≡ true → is_due r timer ≡ true) → due_count s ≤ due_count r
unfolding due_count
no-more-due r s e h =
    let same : length (filter (is_due s) (names_of s.counts)) ≡ length (filter (is_due s) (names_of r.counts)) = ap (λ (x : NodeCounts). length (filter (is_due s) (names_of x))) e in
    omega (arith, same, fewer (is_due s) (is_due r) (names_of r.counts) h)

module _ (c : Configuration) where
  one-handed_out : (due : Option TimerName) (n : Node WholeQueues) (k : ℕ) → due_name n.parts.timers ≡ due → due_count n.parts.timers ≤ suc k
      → due_count (run_due whole c due (with_timers n (after_due n.parts.timers))).parts.timers ≤ k
  one-handed_out None n k e l = omega (arith, ap due_count (after-none n.parts.timers e), count-none n.parts.timers e)
  one-handed_out (Some timer) n k e l =
      let next : Node WholeQueues = with_timers n (after_due n.parts.timers) in
      let t : Dues next (run_due whole c (Some timer) next) = run_due-steps (rules-of (dues-steps c)) (Some timer) next (λ link its f. tt) in
      omega (arith, l, count-after timer n.parts.timers e, no-more-due next.parts.timers (run_due whole c (Some timer) next).parts.timers t.counts t.due)

  pub all-handed_out : (k : ℕ) (n : Node WholeQueues) → due_count n.parts.timers ≤ k → due_count (run_times whole c k n).parts.timers ≤ 0
  all-handed_out zero n l = l
  all-handed_out (suc k) n l = all-handed_out k (run_next whole c n) (one-handed_out (due_name n.parts.timers) n k refl l)

-- where none is counted, none is due
pub none-due : (r : Running) → due_count r ≤ 0 → (timer : TimerName) → r.left timer ≢ Some 0
none-due r l timer = by (due_name r) refl
  where
    by : (due : Option TimerName) → due_name r ≡ due → r.left timer ≢ Some 0
    by None e = due-none timer r e
    by (Some first) e = absurd (omega (arith, l, count-after first r e))
