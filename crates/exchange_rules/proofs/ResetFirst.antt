-- A link takes a step of its alignment, or passes a test, and what is known over its set is reset: whichever comes
-- first, the node is the same.
use Rattle.exchange_rules.proofs.Basics.{◌≡◌, ◌≢◌, ℕ, Bool, true, false, Option, Some, None, refl, ap, sym, subst, ◌∙◌, ⊎_elim}
use Rattle.settings.specs.declared.timer_ticks.TimerTicks.{TimerTicks}
use Rattle.exchange_rules.proofs.Definitions.{paced, Configuration, Transition, LinkTimer, TimerName, NodeCounts, Running, has_name, is_of_set, set_timer, clear_timer, clear_set, left-set, left-set_other, left-clear, left-clear_other, left-clear_set_other, counts-set, counts-clear, counts-clear_set, timer_name, ticks_of, without_timer_if, with_timer_if, timed, Parts, step_on, with_set_reset, test_passed, pause_ticks}
use Rattle.timers.specs.declared.name.TimerName.TheVariants.{Slt1, Slt2}
use Rattle.timers.proofs.Maps.{left-clear_set}
use Rattle.timers.specs.OneMap.{one_map}
use Rattle.timers.specs.declared.name.RouteTimer.{RouteTimer}
use Rattle.timers.specs.declared.name.RouteTimer.TheVariants as of_set
use Rattle.link.specs.declared.action.LinkTimer.TheVariants as timer
use Rattle.exchange_rules.proofs.TimerSettings.{cases-name}

-- the timers of a link are of no set
of-no_set : (of : RouteTimer) (set link : ℕ) (t : LinkTimer) → is_of_set of set (timer_name link t) ≡ false
of-no_set of_set.T8 set link timer.L1 = refl
of-no_set of_set.T8 set link timer.L2 = refl
of-no_set of_set.T8 set link timer.L3 = refl
of-no_set of_set.T8 set link timer.L4 = refl
of-no_set of_set.T8 set link timer.L6 = refl
of-no_set of_set.T8 set link timer.L7 = refl
of-no_set of_set.T10 set link timer.L1 = refl
of-no_set of_set.T10 set link timer.L2 = refl
of-no_set of_set.T10 set link timer.L3 = refl
of-no_set of_set.T10 set link timer.L4 = refl
of-no_set of_set.T10 set link timer.L6 = refl
of-no_set of_set.T10 set link timer.L7 = refl

apart-by : (of : RouteTimer) (set : ℕ) (its other : TimerName) → is_of_set of set its ≡ false → is_of_set of set other ≡ true → its ≢ other
apart-by of set its other e f same = (let no : true ≡ false = sym f ∙ sym (ap (is_of_set of set) same) ∙ e in cc)

module _ (of : RouteTimer) (set : ℕ) where
  -- a timer that is of no set is set before those of a set are stopped, or after them
  cleared-set : (its : TimerName) (ticks : ℕ) (r : Running) → is_of_set of set its ≡ false → clear_set of set (set_timer its ticks r) ≡ set_timer its ticks (clear_set of set r)
  cleared-set its ticks r none =
      one_map _ _ (counts-clear_set of set (set_timer its ticks r) ∙ counts-set its ticks r ∙ sym (counts-clear_set of set r) ∙ sym (counts-set its ticks (clear_set of set r)))
      (λ other. by other (is_of_set of set other) refl)
    where
      here : (has : Bool) → has_name r.counts its ≡ has → (set_timer its ticks r).left its ≡ (set_timer its ticks (clear_set of set r)).left its
      here true e = left-set its ticks r e ∙ sym (left-set its ticks (clear_set of set r) (ap (λ (n : NodeCounts). has_name n its) (counts-clear_set of set r) ∙ e))
      here false e =
          (set_timer its ticks r).only its (ap (λ (n : NodeCounts). has_name n its) (counts-set its ticks r) ∙ e)
          ∙ sym ((set_timer its ticks (clear_set of set r)).only its
          (ap (λ (n : NodeCounts). has_name n its) (counts-set its ticks (clear_set of set r) ∙ counts-clear_set of set r) ∙ e))

      same : (other : TimerName) → is_of_set of set other ≡ false → (set_timer its ticks r).left other ≡ (set_timer its ticks (clear_set of set r)).left other
      same other e =
          ⊎_elim
          (λ (f : its ≡ other). subst (λ (x : TimerName). (set_timer its ticks r).left x ≡ (set_timer its ticks (clear_set of set r)).left x) f (here (has_name r.counts its) refl))
          (λ (apart : its ≢ other). left-set_other its other ticks r apart ∙ sym (left-clear_set_other of set other r e) ∙ sym (left-set_other its other ticks (clear_set of set r) apart))
          (cases-name its other)

      by : (other : TimerName) (b : Bool) → is_of_set of set other ≡ b → (clear_set of set (set_timer its ticks r)).left other ≡ (set_timer its ticks (clear_set of set r)).left other
      by other true e =
          left-clear_set of set other (set_timer its ticks r) e ∙ sym (left-clear_set of set other r e)
          ∙ sym (left-set_other its other ticks (clear_set of set r) (apart-by of set its other none e))
      by other false e = left-clear_set_other of set other (set_timer its ticks r) e ∙ same other e

  -- so it is where one is stopped
  cleared-clear : (its : TimerName) (r : Running) → is_of_set of set its ≡ false → clear_set of set (clear_timer its r) ≡ clear_timer its (clear_set of set r)
  cleared-clear its r none =
      one_map _ _ (counts-clear_set of set (clear_timer its r) ∙ counts-clear its r ∙ sym (counts-clear_set of set r) ∙ sym (counts-clear its (clear_set of set r)))
      (λ other. by other (is_of_set of set other) refl)
    where
      same : (other : TimerName) → is_of_set of set other ≡ false → (clear_timer its r).left other ≡ (clear_timer its (clear_set of set r)).left other
      same other e =
          ⊎_elim
          (λ (f : its ≡ other).
          subst (λ (x : TimerName). (clear_timer its r).left x ≡ (clear_timer its (clear_set of set r)).left x) f (left-clear its r ∙ sym (left-clear its (clear_set of set r))))
          (λ (apart : its ≢ other). left-clear_other its other r apart ∙ sym (left-clear_set_other of set other r e) ∙ sym (left-clear_other its other (clear_set of set r) apart))
          (cases-name its other)

      by : (other : TimerName) (b : Bool) → is_of_set of set other ≡ b → (clear_set of set (clear_timer its r)).left other ≡ (clear_timer its (clear_set of set r)).left other
      by other true e =
          left-clear_set of set other (clear_timer its r) e ∙ sym (left-clear_set of set other r e)
          ∙ sym (left-clear_other its other (clear_set of set r) (apart-by of set its other none e))
      by other false e = left-clear_set_other of set other (clear_timer its r) e ∙ same other e

  module _ (c : Configuration) (link : ℕ) where
    stops : (its : Option LinkTimer) (r : Running) → clear_set of set (without_timer_if link its r) ≡ without_timer_if link its (clear_set of set r)
    stops None r = refl
    stops (Some its) r = cleared-clear (timer_name link its) r (of-no_set of set link its)

    starts : (ticks : TimerTicks) (its : Option LinkTimer) (r : Running) → clear_set of set (with_timer_if ticks link its r) ≡ with_timer_if ticks link its (clear_set of set r)
    starts ticks None r = refl
    starts ticks (Some its) r = cleared-set (timer_name link its) (ticks_of ticks its) r (of-no_set of set link its)

    timed-cleared : (step : Transition) (r : Running) → clear_set of set (timed c link step r) ≡ timed c link step (clear_set of set r)
    timed-cleared step r = starts (paced step.period c.timers) step.start (without_timer_if link step.stop r) ∙ ap (with_timer_if (paced step.period c.timers) link step.start) (stops step.stop r)

-- nor are those of a link's tests
passed-cleared : (of : RouteTimer) (set : ℕ) (c : Configuration) (link : ℕ) (r : Running)
    → clear_set of set (set_timer (Slt2 link) (pause_ticks c) (clear_timer (Slt1 link) r)) ≡ set_timer (Slt2 link) (pause_ticks c) (clear_timer (Slt1 link) (clear_set of set r))
passed-cleared of_set.T8 set c link r =
    cleared-set of_set.T8 set (Slt2 link) (pause_ticks c) (clear_timer (Slt1 link) r) refl ∙ ap (set_timer (Slt2 link) (pause_ticks c)) (cleared-clear of_set.T8 set (Slt1 link) r refl)
passed-cleared of_set.T10 set c link r =
    cleared-set of_set.T10 set (Slt2 link) (pause_ticks c) (clear_timer (Slt1 link) r) refl ∙ ap (set_timer (Slt2 link) (pause_ticks c)) (cleared-clear of_set.T10 set (Slt1 link) r refl)

pub passed-first : (c : Configuration) (set link : ℕ) (p : Parts) → with_set_reset c set (test_passed c link p) ≡ test_passed c link (with_set_reset c set p)
passed-first c set link p =
    ap (λ (r : Running). record (test_passed c link (with_set_reset c set p)) { timers = r })
    (ap (clear_set of_set.T10 set) (passed-cleared of_set.T8 set c link p.timers) ∙ passed-cleared of_set.T10 set c link (clear_set of_set.T8 set p.timers))

pub reset-first : (c : Configuration) (set link : ℕ) (step : Transition) (p : Parts) → with_set_reset c set (step_on c link step p) ≡ step_on c link step (with_set_reset c set p)
reset-first c set link step p =
    ap (λ (r : Running). record (step_on c link step (with_set_reset c set p)) { timers = r })
    (ap (clear_set of_set.T10 set) (timed-cleared of_set.T8 set c link step p.timers) ∙ timed-cleared of_set.T10 set c link step (clear_set of_set.T8 set p.timers))
