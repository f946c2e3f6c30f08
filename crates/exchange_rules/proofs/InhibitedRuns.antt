-- T8 runs on for as many ticks as it is set to, whatever is asked, unless its set comes back.
use Rattle.exchange_rules.proofs.Basics.{◌≡◌, ◌⊎◌, inl, inr, ◌<◌, ◌≤◌, ℕ, ◌+◌, ◌-◌, ◌==◌, Bool, true, false, List, [], ◌∷◌, Option, Some, None, refl, ap, sym, ◌∙◌, arith, nat_tests, max, is_some}
use Rattle.link.specs.declared.period.Period.TheVariants.{Fixed, Normal, Hurried, Emergency}
use Rattle.settings.specs.declared.timer_ticks.TimerTicks.{TimerTicks}
use Rattle.exchange_rules.proofs.Definitions.{Period, paced, left-ticked, one_less, Asking, AsksWants, Happens, Takes, Happening, CameUp, WentDown, FrameCame, Ticked, Submitted, Activated, Deactivated, TitleAdded, TitleSet, TitleRemoved, Abstract, whole, Released}
use Rattle.timers.specs.Timers.{no_tick_left}
use Rattle.timers.specs.declared.name.TimerName.TheVariants.{T8}
use Rattle.exchange_rules.specs.Exchange.{after, taken}
use Rattle.exchange_rules.specs.Aligning.{RunsOut}
use Rattle.exchange_rules.specs.LawsOfAnswers.{AllStayAway, ComesBack, t8_lasts, ticks_among, ticks_by}
use Rattle.exchange_rules.specs.Lasting.{after_each}
use Rattle.exchange_rules.specs.TimerSettings.{RunsBy, left_by, barring}
use Rattle.exchange_rules.proofs.Inhibited.{no-way}
use Rattle.exchange_rules.proofs.InhibitedTicks.{t8-runs, takes-leave}
use Rattle.exchange_rules.proofs.SettingTimers.{events-set}

-- the ticks that are left as an event begins
record Begins (what : Happening) (y : ℕ) : Type 0 where
  left : ℕ
  is : left_by what (Some y) ≡ Some left
  ticks : ticks_by what + left ≡ y

begins : (what : Happening) (y : ℕ) → ticks_by what ≤ y → Begins what y
begins Ticked y l = record { left = y - 1; is = refl; ticks = omega (arith, l) }
begins (CameUp link) y l = record { left = y; is = refl; ticks = omega arith }
begins (WentDown link) y l = record { left = y; is = refl; ticks = omega arith }
begins (FrameCame link text) y l = record { left = y; is = refl; ticks = omega arith }
begins (Submitted m) y l = record { left = y; is = refl; ticks = omega arith }
begins (Activated link emergency) y l = record { left = y; is = refl; ticks = omega arith }
begins (Deactivated link) y l = record { left = y; is = refl; ticks = omega arith }
begins (Released link) y l = record { left = y; is = refl; ticks = omega arith }
begins (TitleAdded row refused) y l = record { left = y; is = refl; ticks = omega arith }
begins (TitleSet row refused) y l = record { left = y; is = refl; ticks = omega arith }
begins (TitleRemoved key digits) y l = record { left = y; is = refl; ticks = omega arith }

same-number : (m n : ℕ) → (m == n) ≡ true → m ≡ n
same-number m n e = grind (arith, nat_tests, e)

module _ (s d : ℕ) where
  abbrev left_in : Abstract → Option ℕ
  left_in a = a.node.parts.timers.left (T8 s d)

  -- more ticks are left than come, and no more than it is set to
  record Lasts (a : Abstract) (rest setting : ℕ) : Type 0 where
    left : ℕ
    is : left_in a ≡ Some left
    more : rest < left
    most : left ≤ setting

  -- for the same time, however long links are proved
  same-t8 : (period : Period) (ticks : TimerTicks) → (paced period ticks).t8 ≡ ticks.t8
  same-t8 Fixed ticks = refl
  same-t8 Normal ticks = refl
  same-t8 Hurried ticks = refl
  same-t8 Emergency ticks = refl

  bar-t8 : (is_bar : Bool) (ticks : TimerTicks) → (barring is_bar ticks).t8 ≡ ticks.t8
  bar-t8 false ticks = refl
  bar-t8 true ticks = refl

  -- it runs out only at the last tick
  not-yet : (what : Happening) (a : Abstract) (y more : ℕ) → left_in a ≡ Some y → ticks_by what + more < y → RunsOut (T8 s d) what a.node.parts.timers → ⊥
  not-yet what a y more e l out =
      let zero-left : (y - 1 == 0) ≡ true = sym (ap no_tick_left (left-ticked (T8 s d) a.node.parts.timers ∙ ap one_less e)) ∙ out.1 in
      omega (arith, l, ap ticks_by out.0, same-number (y - 1) 0 zero-left)

  event-lasts : (what : Happening) (a : Abstract) (more : ℕ) → (ComesBack a.settings what s a.node.parts → ⊥) → (h : Lasts a (ticks_by what + more) (max 1 a.settings.timers.t8))
      → Lasts (after whole what a) more (max 1 a.settings.timers.t8)
  event-lasts what a more away h = by (events-set what a (T8 s d))
    where
      from : Begins what h.left
      from = begins what h.left (omega (arith, h.more))

      stops : left_in (after whole what a) ≡ None → Lasts (after whole what a) more (max 1 a.settings.timers.t8)
      stops none = run (t8-runs what a s d (ap is_some h.is))
        where
          run : (is_some (left_in (after whole what a)) ≡ true) ⊎ (RunsOut (T8 s d) what a.node.parts.timers ⊎ ComesBack a.settings what s a.node.parts)
              → Lasts (after whole what a) more (max 1 a.settings.timers.t8)
          run (inl r) = no-way (is_some (left_in (after whole what a))) r (ap is_some none)
          run (inr (inl out)) = absurd (not-yet what a h.left more h.is h.more out)
          run (inr (inr back)) = absurd (away back)

      by : RunsBy a.settings.timers (T8 s d) (left_by what (left_in a)) (left_in (after whole what a)) → Lasts (after whole what a) more (max 1 a.settings.timers.t8)
      by (inl e) = record {
        left = from.left;
        is = e ∙ ap (left_by what) h.is ∙ from.is;
        more = omega (arith, h.more, from.ticks);
        most = omega (arith, h.most, from.ticks);
      }
      by (inr (inl e)) = record { left = max 1 a.settings.timers.t8; is = e.2 ∙ ap (λ (ticks : ℕ). Some (max 1 ticks)) (same-t8 e.0 (barring e.1 a.settings.timers) ∙ bar-t8 e.1 a.settings.timers); more = omega (arith, h.more, h.most); most = omega arith }
      by (inr (inr e)) = stops e

  all-last : (asked : List Asking) (a : Abstract) → Lasts a (ticks_among asked) (max 1 a.settings.timers.t8) → AllStayAway asked s a → is_some (left_in (after_each asked a)) ≡ true
  all-last [] a h away = ap is_some h.is
  all-last (Happens what ∷ others) a h away = all-last others (after whole what a) (event-lasts what a (ticks_among others) away.0 h) away.1
  all-last (Takes link ∷ others) a h away =
      all-last others (taken whole a link) (record { left = h.left; is = takes-leave a link s d ∙ h.is; more = omega (arith, h.more); most = h.most }) away.1
  all-last (AsksWants link ∷ others) a h away = all-last others a (record { left = h.left; is = h.is; more = omega (arith, h.more); most = h.most }) away.1

pub t8-lasts : t8_lasts
t8-lasts asked a set destination e l away = all-last set destination asked a (record { left = max 1 a.settings.timers.t8; is = e; more = l; most = omega arith }) away
