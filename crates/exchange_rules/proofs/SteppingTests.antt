-- The tests of links: each rule is made of steps.
use Rattle.exchange_rules.proofs.Basics.{◌≡◌, inl, ℕ, Bool, true, false, ◌&&◌, Option, Some, None, refl, ap, sym, ◌∙◌, if◌then◌else◌, and_parts, is_some, inr, subst}
use Rattle.exchange_rules.proofs.Definitions.{Link, is_test_awaited, answers_test, Configuration, Cause, Handled, Ignored, Alignment, is_down, is_in_service, LinkTestValue, link_test, tests_links, answer_ticks, pause_ticks, passes_test, awaiting_test, with_test_failed, test_passed, queue_if, send_test, begin_test, repeat_test, test_unanswered, on_test_answer, Running, set_timer, clear_timer, left-clear_other, link_at, Parts, Node, with_parts, answer, in_service, down, no_room, WholeQueues, whole, down_link, begun_anew_if, set_of, with_set_reset, with_test_passed, is_first_test, pass_test}
use Rattle.link.specs.declared.alignment.Alignment.TheVariants.{Down, NotAligned, Aligned, Proving, AlignedReady, InService}
use Rattle.timers.specs.declared.name.TimerName.TheVariants as name
use Rattle.signalling_types.specs.declared.notice.FailureReason.TheVariants as reasons
use Rattle.exchange_rules.proofs.TimerSettings.{set-still}
use Rattle.exchange_rules.proofs.KeepingTests.{set-tests, still-tests}
use Rattle.exchange_rules.proofs.SteppingTimers.{both-quiet, set-quiet, clear-quiet}
use Rattle.exchange_rules.proofs.Steps.{KeepsTests, brings_back, BeginsClean, Deed, LinkFails, SetReturns, IsOfDeeds}
use Rattle.exchange_rules.proofs.Lists.{alike-at}
use Rattle.exchange_rules.proofs.OwnRoutes.{reset-sure}
use Rattle.exchange_rules.proofs.ResetFirst.{passed-first}
use Rattle.exchange_rules.proofs.SteppingEntries.{set_reset-steps, returned-steps}

-- ---- links as a test goes out

queued-links : (c : Configuration) (room : Option Cause) (link : ℕ) (n : Node WholeQueues)
    → (queue_if whole c room link (link_test c link) (with_parts n (awaiting_test c link n.parts))).parts.links ≡ n.parts.links
queued-links c (Some cause) link n = refl
queued-links c None link n = refl

begun-links : (c : Configuration) (begins : Bool) (link : ℕ) (n : Node WholeQueues) → (if begins then send_test whole c link n else n).parts.links ≡ n.parts.links
begun-links c true link n = queued-links c (no_room whole c (link_test c link) n.queues) link n
begun-links c false link n = refl

pub begin_test-links : (c : Configuration) (link : ℕ) (n : Node WholeQueues) → (begin_test whole c link n).parts.links ≡ n.parts.links
begin_test-links c link n = begun-links c (tests_links c && in_service n.parts link) link n

on-off : {A : Type 0} (b : Bool) → b ≡ true → b ≡ false → A
on-off b e f = (let no : true ≡ false = sym e ∙ f in absurd cc)

-- a link in service isn't down
pub serving-up : (a : Alignment) → is_in_service a ≡ true → is_down a ≡ false
serving-up Down e = absurd cc
serving-up NotAligned e = refl
serving-up Aligned e = refl
serving-up (Proving ready) e = refl
serving-up AlignedReady e = refl
serving-up InService e = refl

-- a link that passed a test is in service as before
pub passed-serves : (link other : ℕ) (p : Parts) → in_service (with_test_passed link p) other ≡ in_service p other
passed-serves link other p =
    alike-at (λ (l : Link). is_in_service l.alignment) p.links link other (record (link_at p link) { test_failed = false; untested = false }) down_link refl

module _ {c : Configuration} {Own Counts : ℕ → Type 0} {May : Deed → Type 0} {R : Node WholeQueues → Node WholeQueues → Type 0} (s : IsOfDeeds c Own Counts May R) where
  pub awaiting-steps : (link : ℕ) (n : Node WholeQueues) → tests_links c ≡ true → R n (with_parts n (awaiting_test c link n.parts))
  awaiting-steps link n on =
      s.timed (set_timer (name.Slt1 link) (answer_ticks c) n.parts.timers) n
      (set-quiet c (name.Slt1 link) (answer_ticks c) n.parts.timers (λ l e. cc) refl refl refl (λ off. on-off (tests_links c) on off))
      (set-tests n.parts (name.Slt1 link) (answer_ticks c))

  queued-steps : (room : Option Cause) (link : ℕ) (n : Node WholeQueues) → in_service n.parts link ≡ true → R n (queue_if whole c room link (link_test c link) n)
  queued-steps (Some cause) link n e = s.sends.none n
  queued-steps None link n e = s.probed link n e

  begun-steps : (begins : Bool) (link : ℕ) (n : Node WholeQueues) → (begins ≡ true → tests_links c ≡ true) → (begins ≡ true → in_service n.parts link ≡ true) → R n (if begins then send_test whole c link n else n)
  begun-steps true link n on e =
      s.sends.both _ _ _ (awaiting-steps link n (on refl)) (queued-steps (no_room whole c (link_test c link) n.queues) link (with_parts n (awaiting_test c link n.parts)) (e refl))
  begun-steps false link n on e = s.sends.none n

  pub begin_test-steps : (link : ℕ) (n : Node WholeQueues) → R n (begin_test whole c link n)
  begin_test-steps link n =
      begun-steps (tests_links c && in_service n.parts link) link n
      (λ e. (and_parts (tests_links c) (in_service n.parts link) e).0) (λ e. (and_parts (tests_links c) (in_service n.parts link) e).1)

  pub failed-steps : (failed : Bool) (link : ℕ) (n : Node WholeQueues) → R n (with_parts n (with_test_failed failed link n.parts))
  failed-steps failed link n =
      s.linked link (record (link_at n.parts link) { test_failed = failed }) n (record { alignment = refl; period = refl; association = refl; busy = refl; waits = inl refl; untested = refl }) refl

  repeat_test-steps : (again : Bool) (link : ℕ) (n : Node WholeQueues) → down n.parts link ≡ false → May (LinkFails link reasons.Test) → R n (repeat_test whole c again link n)
  repeat_test-steps true link n up may = s.fails link reasons.Test n may up
  repeat_test-steps false link n up may =
      s.sends.both _ _ _ (failed-steps true link n) (begin_test-steps link (with_parts n (with_test_failed true link n.parts)))

  unanswered-steps : (serves : Bool) (link : ℕ) (n : Node WholeQueues) → in_service n.parts link ≡ serves → May (LinkFails link reasons.Test)
      → R n (if serves then repeat_test whole c (link_at n.parts link).test_failed link n else n)
  unanswered-steps true link n e may = repeat_test-steps (link_at n.parts link).test_failed link n (serving-up (link_at n.parts link).alignment e) may
  unanswered-steps false link n e may = s.sends.none n

  pub test_unanswered-steps : (link : ℕ) (n : Node WholeQueues) → May (LinkFails link reasons.Test) → R n (test_unanswered whole c link n)
  test_unanswered-steps link n may = unanswered-steps (in_service n.parts link) link n refl may

  -- T10 runs on
  passed-tests : (link : ℕ) (p : Parts) → KeepsTests p (set_timer (name.Slt2 link) (pause_ticks c) (clear_timer (name.Slt1 link) p.timers))
  passed-tests link p =
      still-tests p (set_timer (name.Slt2 link) (pause_ticks c) (clear_timer (name.Slt1 link) p.timers))
      (λ set destination e. set-still (name.Slt2 link) (pause_ticks c) (clear_timer (name.Slt1 link) p.timers) (name.T10 set destination)
      (ap is_some (left-clear_other (name.Slt1 link) (name.T10 set destination) p.timers (λ f. cc)) ∙ e))

  -- a link passes a test, after a reset if that was its first, and it is the first of its set
  passed-steps : (link : ℕ) (n : Node WholeQueues) → tests_links c ≡ true → in_service n.parts link ≡ true
      → BeginsClean c (is_first_test link n.parts) link n.parts → R n (with_parts n (test_passed c link n.parts))
  passed-steps link n on e clean =
      let cleared : Node WholeQueues = with_parts n (with_test_passed link n.parts) in
      let stopped : Running = clear_timer (name.Slt1 link) n.parts.timers in
      s.sends.both _ _ _ (s.passed link n e clean)
      (s.timed (set_timer (name.Slt2 link) (pause_ticks c) stopped) cleared
      (both-quiet c n.parts.timers stopped (set_timer (name.Slt2 link) (pause_ticks c) stopped)
      (clear-quiet c (name.Slt1 link) n.parts.timers (λ l e. cc) refl refl (λ set destination e. cc))
      (set-quiet c (name.Slt2 link) (pause_ticks c) stopped (λ l e. cc) refl refl refl (λ off. on-off (tests_links c) on off)))
      (passed-tests link cleared.parts))

  pub passed_anew-steps : (first : Bool) (link : ℕ) (n : Node WholeQueues) → tests_links c ≡ true → in_service n.parts link ≡ true
      → (brings_back c link n.parts ≡ true → May (SetReturns (set_of c link))) → brings_back c link n.parts ≡ first → R n (with_parts n (begun_anew_if first c link (test_passed c link n.parts)))
  passed_anew-steps false link n on e back f =
      passed-steps link n on e (record { clean = λ is destination. on-off (brings_back c link n.parts) is f })
  passed_anew-steps true link n on e back f =
      let set : ℕ = set_of c link in
      let reset : Node WholeQueues = with_parts n (with_set_reset c set n.parts) in
      subst (λ (p : Parts). R n (with_parts n p)) (sym (passed-first c set link n.parts))
      (s.sends.both _ _ _ (set_reset-steps s set n (inr (back f)))
      (passed-steps link reset on e (record { clean = λ is destination. reset-sure n.parts.routes set destination })))

  pub pass_test-steps : (link : ℕ) (n : Node WholeQueues) → tests_links c ≡ true → in_service n.parts link ≡ true
      → (brings_back c link n.parts ≡ true → May (SetReturns (set_of c link))) → R n (pass_test whole c link n)
  pass_test-steps link n on e back =
      s.sends.both _ _ _ (passed_anew-steps (brings_back c link n.parts) link n on e back refl)
      (returned-steps s (is_first_test link n.parts) link (test_passed c link n.parts) n (record {
        serves = λ first. passed-serves link link n.parts ∙ e;
        others = λ other apart serves. passed-serves link other n.parts ∙ serves;
      }))

  pub on_test_answer-steps : (link point : ℕ) (test : LinkTestValue) (n : Node WholeQueues) → (brings_back c link n.parts ≡ true → May (SetReturns (set_of c link))) → in_service n.parts link ≡ true
      → R n (on_test_answer whole c link point test n).left
  on_test_answer-steps link point test n back e =
      by (passes_test c link point test n.parts) refl
    where
      by : (b : Bool) → passes_test c link point test n.parts ≡ b → R n (if b then answer Handled (pass_test whole c link n) else answer Ignored n).left
      by true f = pass_test-steps link n (and_parts (tests_links c) (is_test_awaited link n.parts && answers_test c link point test) f).0 e back
      by false f = s.sends.none n
