-- Timers are set to their settings: laws.
use Rattle.std.specs.Prelude.{◌≡◌, ◌≤◌, ◌⊎◌, ℕ, Bool, true, false, max, List, Option, Some, None, unwrap_or}
use Rattle.std.specs.Option.{option_map_or}
use Rattle.settings.specs.Configuration.{Configuration}
use Rattle.settings.specs.declared.timer_ticks.TimerTicks.{TimerTicks}
use Rattle.timers.specs.declared.name.TimerName.{TimerName}
use Rattle.timers.specs.declared.name.TimerName.TheVariants.{L1, L2, L3, L4, L6, L7, T1, T2, T3, T4, T6, T8, T10}
use Rattle.timers.specs.declared.name.TimerName.TheVariants.{Slt1, Slt2}
use Rattle.timers.specs.Timers.{one_less}
use Rattle.link.specs.declared.period.Period.{Period}
use Rattle.link.specs.declared.period.Period.TheVariants.{Fixed, Normal, Hurried, Emergency}
use Rattle.exchange_rules.specs.Timing.{paced}
use Rattle.exchange_rules.specs.State.{Asking, Happening, CameUp, WentDown, FrameCame, Ticked, Submitted, Activated, Deactivated, Released, TitleAdded, TitleSet, TitleRemoved}
use Rattle.exchange_rules.specs.Queues.{whole}
use Rattle.exchange_rules.specs.Exchange.{after, taken}
use Rattle.exchange_rules.specs.First.{Abstract, first_state}
use Rattle.exchange_rules.specs.Lasting.{after_each}

-- how many ticks the settings give each timer; 0 if it is left out
abbrev pub setting_of : TimerTicks → TimerName → ℕ
setting_of ticks (L1 link) = ticks.l1
setting_of ticks (L2 link) = ticks.l2
setting_of ticks (L3 link) = ticks.l3
setting_of ticks (L4 link) = ticks.l4
setting_of ticks (L6 link) = ticks.l6
setting_of ticks (L7 link) = ticks.l7
setting_of ticks (T1 link) = ticks.t1
setting_of ticks (T2 link) = ticks.t2
setting_of ticks (T3 link) = ticks.t3
setting_of ticks (T4 set code) = ticks.t4
setting_of ticks (T6 destination) = ticks.t6
setting_of ticks (T8 set destination) = ticks.t8
setting_of ticks (T10 set destination) = ticks.t10
setting_of ticks (Slt1 link) = option_map_or (λ tests. tests.slt1) ticks.link_tests 0
setting_of ticks (Slt2 link) = option_map_or (λ tests. tests.slt2) ticks.link_tests 0

-- the same ticks, and for T2 of a link that is barred those of the bar, if there are any
abbrev pub barring : (is_bar : Bool) → TimerTicks → TimerTicks
barring false ticks = ticks
barring true ticks = record ticks { t2 = unwrap_or ticks.t2_bar ticks.t2 }

-- it was set to as many; L4 to that of one of the periods for which a link may be proved, and T2 to its own or to the
-- bar
abbrev pub IsSetBy : TimerTicks → TimerName → Option ℕ → Type 0
IsSetBy ticks timer left =
    (period : Period) × (is_bar : Bool)
    × (left ≡ Some (max 1 (setting_of (paced period (barring is_bar ticks)) timer)))

-- a timer has as many ticks left as before, was set to as many as the settings give it, or doesn't run
abbrev pub RunsBy : TimerTicks → TimerName → (before after : Option ℕ) → Type 0
RunsBy ticks timer before after = (after ≡ before) ⊎ (IsSetBy ticks timer after ⊎ (after ≡ None))

-- the ticks left to a timer as an event begins: a tick takes one from each
abbrev pub left_by : Happening → Option ℕ → Option ℕ
left_by Ticked left = one_less left
left_by (CameUp link) left = left
left_by (WentDown link) left = left
left_by (FrameCame link text) left = left
left_by (Submitted message) left = left
left_by (Activated link emergency) left = left
left_by (Deactivated link) left = left
left_by (Released link) left = left
left_by (TitleAdded row is_memory_refused) left = left
left_by (TitleSet row is_memory_refused) left = left
left_by (TitleRemoved key digits) left = left

-- this holds over each event and each take
abbrev pub events_set_timers_to_their_settings : Type 0
events_set_timers_to_their_settings =
    (what : Happening) (a : Abstract) (timer : TimerName) →
    RunsBy a.settings.timers timer (left_by what (a.node.parts.timers.left timer))
    ((after whole what a).node.parts.timers.left timer)

abbrev pub takes_set_timers_to_their_settings : Type 0
takes_set_timers_to_their_settings =
    (a : Abstract) (link : ℕ) (timer : TimerName) →
    RunsBy a.settings.timers timer (a.node.parts.timers.left timer)
    ((taken whole a link).node.parts.timers.left timer)

-- so in each state reached from the first no timer has more ticks left, L4 no more than that of one of the periods, and
-- T2 no more than its own or the bar
abbrev pub timers_keep_their_settings : Type 0
timers_keep_their_settings =
    (c : Configuration) (asked : List Asking) (timer : TimerName) (left : ℕ) →
    (after_each asked (first_state c)).node.parts.timers.left timer ≡ Some left →
    (period : Period) × (is_bar : Bool) × (left ≤ max 1 (setting_of (paced period (barring is_bar c.timers)) timer))

-- only L4 has another setting by the period: that of emergency, if there is one
pub record IsPaced (ticks : TimerTicks) : Type 0 where
  pub fixed : paced Fixed ticks ≡ ticks
  pub normal : paced Normal ticks ≡ ticks
  pub hurried : paced Hurried ticks ≡ paced Emergency ticks
  pub emergency : (link : ℕ) → setting_of (paced Emergency ticks) (L4 link) ≡ unwrap_or ticks.l4e ticks.l4
  pub rest : record (paced Emergency ticks) { l4 = ticks.l4 } ≡ ticks

abbrev pub only_l4_is_paced : Type 0
only_l4_is_paced = (ticks : TimerTicks) → IsPaced ticks

-- and only T2 has another by the bar, if there is one
pub record IsBarring (ticks : TimerTicks) : Type 0 where
  pub without : barring false ticks ≡ ticks
  pub bar : (link : ℕ) → setting_of (barring true ticks) (T2 link) ≡ unwrap_or ticks.t2_bar ticks.t2
  pub rest : record (barring true ticks) { t2 = ticks.t2 } ≡ ticks

abbrev pub only_t2_is_barred : Type 0
only_t2_is_barred = (ticks : TimerTicks) → IsBarring ticks
