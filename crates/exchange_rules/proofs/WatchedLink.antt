-- What becomes of the L7 of a link as its timers are set and stopped.
use Rattle.exchange_rules.proofs.Basics.{◌≡◌, ◌≢◌, ◌<◌, ℕ, Bool, true, false, nat_lt, nat_eq, Option, Some, None, refl, ap, sym, subst, ◌∙◌, arith, if◌then◌else◌, is_some, nat_tests}
use Rattle.settings.specs.declared.timer_ticks.TimerTicks.{TimerTicks}
use Rattle.exchange_rules.proofs.Definitions.{paced, Configuration, LinkTimer, Transition, L6, L7, NodeCounts, Running, set_timer, start_unless_running, clear_timer, is_running, left-set, left-set_other, left-clear, left-clear_other, counts-clear, timer_name, ticks_of, without_timer, without_timers, with_timer, without_timer_if, with_timer_if, timed, timed_sending, timed_confirming, timed_busy, timed_busy_ended}
use Rattle.link.specs.declared.action.LinkTimer.TheVariants as timer
use Rattle.timers.specs.declared.name.TimerName.TheVariants.{Slt1, Slt2}
use Rattle.exchange_rules.proofs.Serving.{is_l7}

module _ (link : ℕ) where
  l7-clear : (r : Running) → is_running (L7 link) (clear_timer (L7 link) r) ≡ false
  l7-clear r = ap is_some (left-clear (L7 link) r)

  l7-set : (ticks : ℕ) (r : Running) → link < r.counts.links → is_running (L7 link) (set_timer (L7 link) ticks r) ≡ true
  l7-set ticks r there = (let known : nat_lt link r.counts.links ≡ true = grind (arith, nat_tests, there) in ap is_some (left-set (L7 link) ticks r known))

  pub l7-without_timers : (r : Running) → is_running (L7 link) (without_timers link r) ≡ false
  l7-without_timers r =
      let six : Running = without_timer link timer.L6 (without_timer link timer.L4 (without_timer link timer.L3 (without_timer link timer.L2 (without_timer link timer.L1 r)))) in
      let seven : Running = without_timer link timer.L7 six in
      ap is_some (left-clear_other (Slt2 link) (L7 link) (clear_timer (Slt1 link) seven) (λ e. cc) ∙ left-clear_other (Slt1 link) (L7 link) seven (λ e. cc)) ∙ l7-clear six

  other-timer : (t : LinkTimer) → is_l7 (Some t) ≡ false → timer_name link t ≢ L7 link
  other-timer timer.L1 e f = cc
  other-timer timer.L2 e f = cc
  other-timer timer.L3 e f = cc
  other-timer timer.L4 e f = cc
  other-timer timer.L6 e f = cc
  other-timer timer.L7 e f = cc

  l7-stop : (t : Option LinkTimer) (r : Running) → is_l7 t ≡ false → is_running (L7 link) (without_timer_if link t r) ≡ is_running (L7 link) r
  l7-stop None r e = refl
  l7-stop (Some t) r e = ap is_some (left-clear_other (timer_name link t) (L7 link) r (other-timer t e))

  module _ (c : Configuration) where
    l7-start : (ticks : TimerTicks) (t : Option LinkTimer) (r : Running) → is_l7 t ≡ false → is_running (L7 link) (with_timer_if ticks link t r) ≡ is_running (L7 link) r
    l7-start ticks None r e = refl
    l7-start ticks (Some t) r e = ap is_some (left-set_other (timer_name link t) (L7 link) (ticks_of ticks t) r (other-timer t e))

    pub l7-timed : (step : Transition) (r : Running) → is_l7 step.stop ≡ false → is_l7 step.start ≡ false → is_running (L7 link) (timed c link step r) ≡ is_running (L7 link) r
    l7-timed step r e f = l7-start (paced step.period c.timers) step.start (without_timer_if link step.stop r) f ∙ l7-stop step.stop r e

    pub l7-busy : (r : Running) → is_running (L7 link) (timed_busy c link r) ≡ false
    l7-busy r =
        ap is_some (left-set_other (L6 link) (L7 link) (ticks_of c.timers timer.L6) (without_timer link timer.L7 r) (other-timer timer.L6 refl)) ∙ l7-clear r

    pub l7-busy_ended : (outstanding : ℕ) (r : Running) → link < r.counts.links
        → is_running (L7 link) (timed_busy_ended c link outstanding r) ≡ (if nat_eq outstanding 0 then is_running (L7 link) r else true)
    l7-busy_ended outstanding r there = by (nat_eq outstanding 0)
      where
        by : (none : Bool) → is_running (L7 link) (if none then without_timer link timer.L6 r else with_timer c link timer.L7 (without_timer link timer.L6 r))
            ≡ (if none then is_running (L7 link) r else true)
        by true = ap is_some (left-clear_other (L6 link) (L7 link) r (other-timer timer.L6 refl))
        by false = l7-set (ticks_of c.timers timer.L7) (without_timer link timer.L6 r) (subst (λ (n : NodeCounts). link < n.links) (sym (counts-clear (L6 link) r)) there)

    pub l7-confirming : (busy : Bool) (confirmed outstanding : ℕ) (r : Running) → link < r.counts.links
        → is_running (L7 link) (timed_confirming c link busy confirmed outstanding r)
        ≡ (if nat_eq confirmed 0 then is_running (L7 link) r else if nat_eq outstanding 0 then false else if busy then is_running (L7 link) r else true)
    l7-confirming busy confirmed outstanding r there = by (nat_eq confirmed 0) (nat_eq outstanding 0) busy
      where
        by : (none over busy : Bool) → is_running (L7 link) (if none then r else if over then without_timer link timer.L7 r else if busy then r else with_timer c link timer.L7 r)
            ≡ (if none then is_running (L7 link) r else if over then false else if busy then is_running (L7 link) r else true)
        by true over busy = refl
        by false true busy = l7-clear r
        by false false true = refl
        by false false false = l7-set (ticks_of c.timers timer.L7) r there

    pub l7-sending : (r : Running) → link < r.counts.links → is_running (L7 link) (timed_sending c link r) ≡ true
    unfolding start_unless_running
    l7-sending r there = by (is_running (L7 link) r) refl
      where
        by : (runs : Bool) → is_running (L7 link) r ≡ runs → is_running (L7 link) (if runs then r else set_timer (L7 link) (ticks_of c.timers timer.L7) r) ≡ true
        by true e = e
        by false e = l7-set (ticks_of c.timers timer.L7) r there
