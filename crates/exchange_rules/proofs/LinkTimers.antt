-- The timers of one link are set and stopped: the same names exist, the L7 of no other link changes, no timer becomes
-- due, and no timer that ends a hold changes.
use Rattle.exchange_rules.proofs.Basics.{◌≡◌, ◌≢◌, ℕ, Bool, true, false, refl, sym, ap, ◌∙◌, if◌then◌else◌, is_some}
use Rattle.settings.specs.declared.timer_ticks.TimerTicks.{TimerTicks}
use Rattle.exchange_rules.proofs.Definitions.{paced, Configuration, LinkTimer, Transition, TimerName, L7, key_of, Running, set_timer, start_unless_running, is_due, is_running, left-set_other, left-clear_other, counts-set, counts-clear, timer_name, ticks_of, without_timer, without_timers, with_timer, without_timer_if, with_timer_if, timed, timed_sending, timed_confirming, timed_busy, timed_busy_ended, clear_timer}
use Rattle.std.specs.Prelude.{nat_eq, Option, Some, None}
use Rattle.link.specs.declared.action.LinkTimer.TheVariants as timer
use Rattle.timers.specs.declared.name.TimerName.TheVariants.{Slt1, Slt2}
use Rattle.exchange_rules.proofs.Steps.{ends_holds, is_of_test}
use Rattle.exchange_rules.proofs.SteppingTimers.{apart-by, apart-from, due-set, due-clear, ran-before}

pub record AreTimedFor (link : ℕ) (r s : Running) : Type 0 where
  pub counts : s.counts ≡ r.counts
  pub others : (other : ℕ) → other ≢ link → is_running (L7 other) s ≡ is_running (L7 other) r
  pub due : (name : TimerName) → is_due s name ≡ true → is_due r name ≡ true
  pub endings : (name : TimerName) → ends_holds name ≡ true → s.left name ≡ r.left name
  pub tests : (name : TimerName) → is_of_test name ≡ true → is_running name s ≡ true → is_running name r ≡ true
  pub rest : (name : TimerName) → ((t : LinkTimer) → name ≢ timer_name link t) → name ≢ Slt1 link → name ≢ Slt2 link → s.left name ≡ r.left name

apart-name : (link other : ℕ) (t : LinkTimer) → other ≢ link → timer_name link t ≢ L7 other
apart-name link other timer.L1 apart e = cc
apart-name link other timer.L2 apart e = cc
apart-name link other timer.L3 apart e = cc
apart-name link other timer.L4 apart e = cc
apart-name link other timer.L6 apart e = cc
apart-name link other timer.L7 apart e = apart (sym (ap (λ (x : TimerName). (key_of x).row) e))

ends-none : (link : ℕ) (t : LinkTimer) → ends_holds (timer_name link t) ≡ false
ends-none link timer.L1 = refl
ends-none link timer.L2 = refl
ends-none link timer.L3 = refl
ends-none link timer.L4 = refl
ends-none link timer.L6 = refl
ends-none link timer.L7 = refl

tests-none : (link : ℕ) (t : LinkTimer) → is_of_test (timer_name link t) ≡ false
tests-none link timer.L1 = refl
tests-none link timer.L2 = refl
tests-none link timer.L3 = refl
tests-none link timer.L4 = refl
tests-none link timer.L6 = refl
tests-none link timer.L7 = refl

module _ (link : ℕ) where
  pub same-for : (r : Running) → AreTimedFor link r r
  same-for r = record { counts = refl; others = λ other apart. refl; due = λ name e. e; endings = λ name e. refl; tests = λ name of runs. runs; rest = λ name apart first second. refl }

  both-for : (r s t : Running) → AreTimedFor link r s → AreTimedFor link s t → AreTimedFor link r t
  both-for r s t e f = record {
    counts = f.counts ∙ e.counts;
    others = λ other apart. f.others other apart ∙ e.others other apart;
    due = λ name h. e.due name (f.due name h);
    endings = λ name h. f.endings name h ∙ e.endings name h;
    tests = λ name of runs. e.tests name of (f.tests name of runs);
    rest = λ name apart first second. f.rest name apart first second ∙ e.rest name apart first second;
  }

  either-for : (b : Bool) (r s t : Running) → AreTimedFor link r s → AreTimedFor link r t → AreTimedFor link r (if b then s else t)
  either-for true r s t e f = e
  either-for false r s t e f = f

  set-for : (t : LinkTimer) (ticks : ℕ) (r : Running) → AreTimedFor link r (set_timer (timer_name link t) ticks r)
  set-for t ticks r = record {
    counts = counts-set (timer_name link t) ticks r;
    others = λ other apart. ap is_some (left-set_other (timer_name link t) (L7 other) ticks r (apart-name link other t apart));
    due = λ name e. due-set (timer_name link t) name ticks r e;
    endings = λ name e. left-set_other (timer_name link t) name ticks r (apart-from (timer_name link t) name (ends-none link t) e);
    tests = λ name of runs. sym (ap is_some (left-set_other (timer_name link t) name ticks r (apart-by is_of_test (timer_name link t) name (tests-none link t) of))) ∙ runs;
    rest = λ name apart first second. left-set_other (timer_name link t) name ticks r (λ e. apart t (sym e));
  }

  clear-for : (t : LinkTimer) (r : Running) → AreTimedFor link r (without_timer link t r)
  clear-for t r = record {
    counts = counts-clear (timer_name link t) r;
    others = λ other apart. ap is_some (left-clear_other (timer_name link t) (L7 other) r (apart-name link other t apart));
    due = λ name e. due-clear (timer_name link t) name r e;
    endings = λ name e. left-clear_other (timer_name link t) name r (apart-from (timer_name link t) name (ends-none link t) e);
    tests = λ name of runs. ran-before (timer_name link t) name r runs;
    rest = λ name apart first second. left-clear_other (timer_name link t) name r (λ e. apart t (sym e));
  }

  -- those of its tests stop
  untested-for : (r : Running) → AreTimedFor link r (clear_timer (Slt2 link) (clear_timer (Slt1 link) r))
  untested-for r =
      let one : Running = clear_timer (Slt1 link) r in
      record {
        counts = counts-clear (Slt2 link) one ∙ counts-clear (Slt1 link) r;
        others = λ other apart. ap is_some (left-clear_other (Slt2 link) (L7 other) one (λ e. cc) ∙ left-clear_other (Slt1 link) (L7 other) r (λ e. cc));
        due = λ name e. due-clear (Slt1 link) name r (due-clear (Slt2 link) name one e);
        endings = λ name e.
            left-clear_other (Slt2 link) name one (apart-from (Slt2 link) name refl e) ∙ left-clear_other (Slt1 link) name r (apart-from (Slt1 link) name refl e);
        tests = λ name of runs. ran-before (Slt1 link) name r (ran-before (Slt2 link) name one runs);
        rest = λ name apart first second. left-clear_other (Slt2 link) name one (λ e. second (sym e)) ∙ left-clear_other (Slt1 link) name r (λ e. first (sym e));
      }

  pub without_timers-for : (r : Running) → AreTimedFor link r (without_timers link r)
  without_timers-for r =
      both-for _ _ _ (both-for _ _ _ (both-for _ _ _ (both-for _ _ _ (both-for _ _ _ (both-for _ _ _ (clear-for timer.L1 r) (clear-for timer.L2 _)) (clear-for timer.L3 _)) (clear-for timer.L4 _))
      (clear-for timer.L6 _)) (clear-for timer.L7 _)) (untested-for _)

  without_timer_if-for : (t : Option LinkTimer) (r : Running) → AreTimedFor link r (without_timer_if link t r)
  without_timer_if-for None r = same-for r
  without_timer_if-for (Some t) r = clear-for t r

  module _ (c : Configuration) where
    with_timer_if-for : (ticks : TimerTicks) (t : Option LinkTimer) (r : Running) → AreTimedFor link r (with_timer_if ticks link t r)
    with_timer_if-for ticks None r = same-for r
    with_timer_if-for ticks (Some t) r = set-for t (ticks_of ticks t) r

    pub timed-for : (step : Transition) (r : Running) → AreTimedFor link r (timed c link step r)
    timed-for step r = both-for _ _ _ (without_timer_if-for step.stop r) (with_timer_if-for (paced step.period c.timers) step.start (without_timer_if link step.stop r))

    pub timed_sending-for : (r : Running) → AreTimedFor link r (timed_sending c link r)
    unfolding start_unless_running
    timed_sending-for r = either-for (is_running (L7 link) r) r r (set_timer (L7 link) (ticks_of c.timers timer.L7) r) (same-for r) (set-for timer.L7 (ticks_of c.timers timer.L7) r)

    pub timed_confirming-for : (busy : Bool) (confirmed outstanding : ℕ) (r : Running) → AreTimedFor link r (timed_confirming c link busy confirmed outstanding r)
    timed_confirming-for busy confirmed outstanding r =
        let anew : Running = with_timer c link timer.L7 r in
        either-for (nat_eq confirmed 0) r r (if nat_eq outstanding 0 then without_timer link timer.L7 r else if busy then r else anew) (same-for r)
        (either-for (nat_eq outstanding 0) r (without_timer link timer.L7 r) (if busy then r else anew) (clear-for timer.L7 r)
        (either-for busy r r anew (same-for r) (set-for timer.L7 (ticks_of c.timers timer.L7) r)))

    pub timed_busy-for : (r : Running) → AreTimedFor link r (timed_busy c link r)
    timed_busy-for r = both-for _ _ _ (clear-for timer.L7 r) (set-for timer.L6 (ticks_of c.timers timer.L6) (without_timer link timer.L7 r))

    pub timed_busy_ended-for : (outstanding : ℕ) (r : Running) → AreTimedFor link r (timed_busy_ended c link outstanding r)
    timed_busy_ended-for outstanding r =
        let stopped : Running = without_timer link timer.L6 r in
        either-for (nat_eq outstanding 0) r stopped (with_timer c link timer.L7 stopped) (clear-for timer.L6 r)
        (both-for _ _ _ (clear-for timer.L6 r) (set-for timer.L7 (ticks_of c.timers timer.L7) stopped))
