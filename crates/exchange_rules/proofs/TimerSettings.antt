-- Timers are set to as many ticks as the settings give them.
use Rattle.exchange_rules.proofs.Basics.{◌≡◌, ◌≢◌, ◌⊎◌, inl, inr, ℕ, Bool, true, false, ◌==◌, Option, Some, None, refl, ap, sym, ◌∙◌, subst, max, ⊎_elim, nat_eq, if◌then◌else◌, is_some, arith, nat_tests}
use Rattle.exchange_rules.proofs.Definitions.{Period, paced, Configuration, LinkTimer, Transition, TimerName, L7, NodeCounts, Running, has_name, is_of_set, is_running, set_timer, start_unless_running, clear_timer, clear_set, left-set, left-set_other, left-clear, left-clear_other, left-clear_set_other, counts-set, timer_name, ticks_of, without_timer, without_timers, with_timer, without_timer_if, with_timer_if, timed, timed_sending, timed_confirming, timed_busy, timed_busy_ended}
use Rattle.timers.proofs.Maps.{left-clear_set}
use Rattle.timers.specs.Timers.{is_same}
use Rattle.timers.proofs.Same.{same_is, is_itself}
use Rattle.timers.specs.declared.name.RouteTimer.{RouteTimer}
use Rattle.timers.specs.declared.name.RouteTimer.TheVariants as of_set
use Rattle.timers.specs.declared.name.TimerName.TheVariants.{T2, T8, Slt1, Slt2}
use Rattle.link.specs.declared.action.LinkTimer.TheVariants as timer
use Rattle.settings.specs.declared.timer_ticks.TimerTicks.{TimerTicks}
use Rattle.link.specs.declared.period.Period.TheVariants.{Fixed}
use Rattle.exchange_rules.specs.TimerSettings.{setting_of, barring, RunsBy}
use Rattle.std.specs.Prelude.{unwrap_or}

pub cases-name : (one other : TimerName) → (one ≡ other) ⊎ (one ≢ other)
cases-name one other = by (is_same one other) refl
  where
    by : (b : Bool) → is_same one other ≡ b → (one ≡ other) ⊎ (one ≢ other)
    by true e = inl (same_is one other e)
    by false e = inr (λ it. (let no : false ≡ true = sym e ∙ ap (λ (x : TimerName). is_same x other) it ∙ is_itself other in cc))

-- ---- one timer

pub runs-both : (ticks : TimerTicks) (its : TimerName) (x y z : Option ℕ) → RunsBy ticks its x y → RunsBy ticks its y z → RunsBy ticks its x z
runs-both ticks its x y z e (inl f) = by e
  where
    by : RunsBy ticks its x y → RunsBy ticks its x z
    by (inl g) = inl (f ∙ g)
    by (inr (inl g)) = inr (inl (g.0, g.1, f ∙ g.2))
    by (inr (inr g)) = inr (inr (f ∙ g))
runs-both ticks its x y z e (inr f) = inr f

-- one that runs runs on if another is set, or it is set again
pub set-still : (its : TimerName) (ticks : ℕ) (r : Running) (other : TimerName) → is_running other r ≡ true → is_running other (set_timer its ticks r) ≡ true
set-still its ticks r other e =
    ⊎_elim
    (λ (same : its ≡ other). subst (λ (x : TimerName). is_running x r ≡ true → is_running x (set_timer its ticks r) ≡ true) same (here (has_name r.counts its) refl) e)
    (λ (apart : its ≢ other). ap is_some (left-set_other its other ticks r apart) ∙ e)
    (cases-name its other)
  where
    here : (has : Bool) → has_name r.counts its ≡ has → is_running its r ≡ true → is_running its (set_timer its ticks r) ≡ true
    here true h runs = ap is_some (left-set its ticks r h)
    here false h runs = (let no : true ≡ false = sym runs ∙ ap is_some (r.only its h) in absurd cc)

-- ---- all of them: each is set to its setting, and T8 stops only of the sets of E

pub record AreSet (c : Configuration) (E : ℕ → Type 0) (r s : Running) : Type 0 where
  pub each : (its : TimerName) → RunsBy c.timers its (r.left its) (s.left its)
  pub inhibits : (set destination : ℕ) → is_running (T8 set destination) r ≡ true → (is_running (T8 set destination) s ≡ true) ⊎ E set

-- of more sets it may stop
pub wider-set : {c : Configuration} {D E : ℕ → Type 0} {r s : Running} → ((set : ℕ) → D set → E set) → AreSet c D r s → AreSet c E r s
wider-set f a = record { each = a.each; inhibits = λ set destination e. ⊎_elim (λ h. inl h) (λ h. inr (f set h)) (a.inhibits set destination e) }

module _ (c : Configuration) (E : ℕ → Type 0) where
  pub same-set : (r s : Running) → s ≡ r → AreSet c E r s
  same-set r s e = record {
    each = λ its. inl (ap (λ (x : Running). x.left its) e);
    inhibits = λ set destination h. inl (ap (λ (x : Running). is_running (T8 set destination) x) e ∙ h);
  }

  pub both-set : (r s t : Running) → AreSet c E r s → AreSet c E s t → AreSet c E r t
  both-set r s t e f = record {
    each = λ its. runs-both _ _ _ _ _ (e.each its) (f.each its);
    inhibits = λ set destination h. ⊎_elim (λ k. f.inhibits set destination k) (λ k. inr k) (e.inhibits set destination h);
  }

  pub either-set : (b : Bool) (r s t : Running) → AreSet c E r s → AreSet c E r t → AreSet c E r (if b then s else t)
  either-set true r s t e f = e
  either-set false r s t e f = f

  -- one is set, if there is one of its name, by the ticks of a period, or by the bar
  chosen-set : (period : Period) (is_bar : Bool) (its : TimerName) (ticks : ℕ) (r : Running) → ticks ≡ setting_of (paced period (barring is_bar c.timers)) its → AreSet c E r (set_timer its ticks r)
  chosen-set period is_bar its ticks r e = record {
    each = λ other. ⊎_elim (same other) (λ (apart : its ≢ other). inl (left-set_other its other ticks r apart)) (cases-name its other);
    inhibits = λ set destination h. inl (set-still its ticks r (T8 set destination) h);
  }
    where
      there : (has : Bool) → has_name r.counts its ≡ has → RunsBy c.timers its (r.left its) ((set_timer its ticks r).left its)
      there true h = inr (inl (period, is_bar, left-set its ticks r h ∙ ap (λ (n : ℕ). Some (max 1 n)) e))
      there false h = inr (inr ((set_timer its ticks r).only its (ap (λ (n : NodeCounts). has_name n its) (counts-set its ticks r) ∙ h)))

      same : (other : TimerName) → its ≡ other → RunsBy c.timers other (r.left other) ((set_timer its ticks r).left other)
      same other f = subst (λ (x : TimerName). RunsBy c.timers x (r.left x) ((set_timer its ticks r).left x)) f (there (has_name r.counts its) refl)

  pub paced-set : (period : Period) (its : TimerName) (ticks : ℕ) (r : Running) → ticks ≡ setting_of (paced period c.timers) its → AreSet c E r (set_timer its ticks r)
  paced-set period its ticks r e = chosen-set period false its ticks r e

  pub bar-set : (link ticks : ℕ) (r : Running) → c.timers.t2_bar ≡ Some ticks → AreSet c E r (set_timer (T2 link) ticks r)
  bar-set link ticks r e = chosen-set Fixed true (T2 link) ticks r (sym (ap (λ (bar : Option ℕ). unwrap_or bar c.timers.t2) e))

  pub set-set : (its : TimerName) (ticks : ℕ) (r : Running) → ticks ≡ setting_of c.timers its → AreSet c E r (set_timer its ticks r)
  set-set its ticks r e = paced-set Fixed its ticks r e

  pub clear-set : (its : TimerName) (r : Running) → ((set destination : ℕ) → its ≡ T8 set destination → E set) → AreSet c E r (clear_timer its r)
  clear-set its r own = record {
    each = λ other. ⊎_elim
        (λ (f : its ≡ other). inr (inr (ap (λ (x : TimerName). (clear_timer its r).left x) (sym f) ∙ left-clear its r)))
        (λ (apart : its ≢ other). inl (left-clear_other its other r apart))
        (cases-name its other);
    inhibits = λ set destination h. ⊎_elim
        (λ (f : its ≡ T8 set destination). inr (own set destination f))
        (λ (apart : its ≢ T8 set destination). inl (ap is_some (left-clear_other its (T8 set destination) r apart) ∙ h))
        (cases-name its (T8 set destination));
  }

  pub clear_set-set : (of : RouteTimer) (set : ℕ) (r : Running) → (of ≡ of_set.T8 → E set) → AreSet c E r (clear_set of set r)
  clear_set-set of set r own = record { each = λ other. by other (is_of_set of set other) refl; inhibits = stays of own }
    where
      by : (other : TimerName) (b : Bool) → is_of_set of set other ≡ b → RunsBy c.timers other (r.left other) ((clear_set of set r).left other)
      by other true e = inr (inr (left-clear_set of set other r e))
      by other false e = inl (left-clear_set_other of set other r e)

      same-number : (m n : ℕ) → (m == n) ≡ true → m ≡ n
      same-number m n e = grind (arith, nat_tests, e)

      at : (s destination : ℕ) (b : Bool) → (s == set) ≡ b → E set → is_running (T8 s destination) r ≡ true → (is_running (T8 s destination) (clear_set of_set.T8 set r) ≡ true) ⊎ E s
      at s destination true e may h = inr (subst E (sym (same-number s set e)) may)
      at s destination false e may h = inl (ap is_some (left-clear_set_other of_set.T8 set (T8 s destination) r e) ∙ h)

      stays : (of : RouteTimer) → (of ≡ of_set.T8 → E set) → (s destination : ℕ) → is_running (T8 s destination) r ≡ true → (is_running (T8 s destination) (clear_set of set r) ≡ true) ⊎ E s
      stays of_set.T10 own s destination h = inl (ap is_some (left-clear_set_other of_set.T10 set (T8 s destination) r refl) ∙ h)
      stays of_set.T8 own s destination h = at s destination (s == set) refl (own refl) h

  -- ---- those of a link

  ticks-own : (ticks : TimerTicks) (link : ℕ) (its : LinkTimer) → ticks_of ticks its ≡ setting_of ticks (timer_name link its)
  ticks-own ticks link timer.L1 = refl
  ticks-own ticks link timer.L2 = refl
  ticks-own ticks link timer.L3 = refl
  ticks-own ticks link timer.L4 = refl
  ticks-own ticks link timer.L6 = refl
  ticks-own ticks link timer.L7 = refl

  with_timer-set : (link : ℕ) (its : LinkTimer) (r : Running) → AreSet c E r (with_timer c link its r)
  with_timer-set link its r = set-set (timer_name link its) (ticks_of c.timers its) r (ticks-own c.timers link its)

  without_timer-set : (link : ℕ) (its : LinkTimer) (r : Running) → AreSet c E r (without_timer link its r)
  without_timer-set link its r = clear-set (timer_name link its) r (λ set destination e. of-link its set destination e)
    where
      of-link : (t : LinkTimer) (set destination : ℕ) → timer_name link t ≡ T8 set destination → E set
      of-link timer.L1 set destination e = absurd cc
      of-link timer.L2 set destination e = absurd cc
      of-link timer.L3 set destination e = absurd cc
      of-link timer.L4 set destination e = absurd cc
      of-link timer.L6 set destination e = absurd cc
      of-link timer.L7 set destination e = absurd cc

  pub without_timers-set : (link : ℕ) (r : Running) → AreSet c E r (without_timers link r)
  without_timers-set link r =
      both-set _ _ _ (both-set _ _ _ (both-set _ _ _ (both-set _ _ _ (both-set _ _ _ (both-set _ _ _ (both-set _ _ _ (without_timer-set link timer.L1 r) (without_timer-set link timer.L2 _))
      (without_timer-set link timer.L3 _)) (without_timer-set link timer.L4 _)) (without_timer-set link timer.L6 _)) (without_timer-set link timer.L7 _))
      (clear-set (Slt1 link) _ (λ set destination e. absurd cc))) (clear-set (Slt2 link) _ (λ set destination e. absurd cc))

  stops-set : (link : ℕ) (its : Option LinkTimer) (r : Running) → AreSet c E r (without_timer_if link its r)
  stops-set link None r = same-set r r refl
  stops-set link (Some its) r = without_timer-set link its r

  starts-set : (period : Period) (link : ℕ) (its : Option LinkTimer) (r : Running) → AreSet c E r (with_timer_if (paced period c.timers) link its r)
  starts-set period link None r = same-set r r refl
  starts-set period link (Some its) r =
      paced-set period (timer_name link its) (ticks_of (paced period c.timers) its) r (ticks-own (paced period c.timers) link its)

  pub timed-set : (link : ℕ) (step : Transition) (r : Running) → AreSet c E r (timed c link step r)
  timed-set link step r = both-set _ _ _ (stops-set link step.stop r) (starts-set step.period link step.start (without_timer_if link step.stop r))

  pub timed_sending-set : (link : ℕ) (r : Running) → AreSet c E r (timed_sending c link r)
  unfolding start_unless_running
  timed_sending-set link r = either-set (is_running (L7 link) r) r r (with_timer c link timer.L7 r) (same-set r r refl) (with_timer-set link timer.L7 r)

  pub timed_confirming-set : (link : ℕ) (busy : Bool) (confirmed outstanding : ℕ) (r : Running) → AreSet c E r (timed_confirming c link busy confirmed outstanding r)
  timed_confirming-set link busy confirmed outstanding r =
      let anew : Running = with_timer c link timer.L7 r in
      either-set (nat_eq confirmed 0) r r (if nat_eq outstanding 0 then without_timer link timer.L7 r else if busy then r else anew) (same-set r r refl)
      (either-set (nat_eq outstanding 0) r (without_timer link timer.L7 r) (if busy then r else anew) (without_timer-set link timer.L7 r)
      (either-set busy r r anew (same-set r r refl) (with_timer-set link timer.L7 r)))

  pub timed_busy-set : (link : ℕ) (r : Running) → AreSet c E r (timed_busy c link r)
  timed_busy-set link r = both-set _ _ _ (without_timer-set link timer.L7 r) (with_timer-set link timer.L6 (without_timer link timer.L7 r))

  pub timed_busy_ended-set : (link outstanding : ℕ) (r : Running) → AreSet c E r (timed_busy_ended c link outstanding r)
  timed_busy_ended-set link outstanding r =
      let stopped : Running = without_timer link timer.L6 r in
      either-set (nat_eq outstanding 0) r stopped (with_timer c link timer.L7 stopped) (without_timer-set link timer.L6 r)
      (both-set _ _ _ (without_timer-set link timer.L6 r) (with_timer-set link timer.L7 stopped))
