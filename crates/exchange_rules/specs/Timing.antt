-- The timers of links (Q.703 §12.3).
use Rattle.std.specs.Prelude.{ℕ, Bool, Option, Some, None, nat_eq, if◌then◌else◌, unwrap_or}
use Rattle.settings.specs.Configuration.{Configuration}
use Rattle.settings.specs.declared.timer_ticks.TimerTicks.{TimerTicks}
use Rattle.link.specs.declared.action.LinkTimer.{LinkTimer}
use Rattle.link.specs.declared.action.LinkTimer.TheVariants.{L1, L2, L3, L4, L6, L7}
use Rattle.link.specs.declared.action.Transition.{Transition}
use Rattle.link.specs.declared.period.Period.{Period}
use Rattle.link.specs.declared.period.Period.TheVariants.{Fixed, Normal, Hurried, Emergency}
use Rattle.timers.specs.declared.name.TimerName.{TimerName}
use Rattle.timers.specs.declared.name.TimerName.TheVariants as name
use Rattle.timers.specs.Timers.{Running, set_timer, start_unless_running, clear_timer}
use Rattle.exchange_rules.specs.State.{◌▷◌}

abbrev pub timer_name : ℕ → LinkTimer → TimerName
timer_name link L1 = name.L1 link
timer_name link L2 = name.L2 link
timer_name link L3 = name.L3 link
timer_name link L4 = name.L4 link
timer_name link L6 = name.L6 link
timer_name link L7 = name.L7 link

-- how many ticks it runs
abbrev pub ticks_of : TimerTicks → LinkTimer → ℕ
ticks_of ticks L1 = ticks.l1
ticks_of ticks L2 = ticks.l2
ticks_of ticks L3 = ticks.l3
ticks_of ticks L4 = ticks.l4
ticks_of ticks L6 = ticks.l6
ticks_of ticks L7 = ticks.l7

-- the same for a link that is proved for a period: L4 runs for emergency proving by a setting of its own, if there is
-- one
abbrev pub paced : Period → TimerTicks → TimerTicks
paced Fixed ticks = ticks
paced Normal ticks = ticks
paced Hurried ticks = record ticks { l4 = unwrap_or ticks.l4e ticks.l4 }
paced Emergency ticks = record ticks { l4 = unwrap_or ticks.l4e ticks.l4 }

-- a timer of a link stops
abbrev pub without_timer : ℕ → LinkTimer → Running → Running
without_timer link timer r = clear_timer (timer_name link timer) r

-- none of the link's timers runs, those of its tests included
abbrev pub without_timers : ℕ → Running → Running
without_timers link r =
    r ▷ without_timer link L1 ▷ without_timer link L2 ▷ without_timer link L3
    ▷ without_timer link L4 ▷ without_timer link L6 ▷ without_timer link L7
    ▷ clear_timer (name.Slt1 link) ▷ clear_timer (name.Slt2 link)

-- a timer of a link starts, or restarts
abbrev pub with_timer : Configuration → ℕ → LinkTimer → Running → Running
with_timer c link timer r = set_timer (timer_name link timer) (ticks_of c.timers timer) r

abbrev pub without_timer_if : ℕ → Option LinkTimer → Running → Running
without_timer_if link None r = r
without_timer_if link (Some timer) r = without_timer link timer r

abbrev pub with_timer_if : TimerTicks → ℕ → Option LinkTimer → Running → Running
with_timer_if ticks link None r = r
with_timer_if ticks link (Some timer) r = set_timer (timer_name link timer) (ticks_of ticks timer) r

-- a step of the alignment stops one and starts another
abbrev pub timed : Configuration → ℕ → Transition → Running → Running
timed c link step r =
    r ▷ without_timer_if link step.stop ▷ with_timer_if (paced step.period c.timers) link step.start

-- L7 watches the oldest message that was sent and isn't confirmed; it doesn't run while the peer is busy

-- a message was sent
abbrev pub timed_sending : Configuration → ℕ → Running → Running
timed_sending c link r = start_unless_running (timer_name link L7) (ticks_of c.timers L7) r

-- the peer confirmed this many messages, and this many sent ones are left
abbrev pub timed_confirming : Configuration → ℕ → (busy : Bool) → (confirmed outstanding : ℕ) → Running → Running
timed_confirming c link busy confirmed outstanding r =
    if nat_eq confirmed 0 then r
    else if nat_eq outstanding 0 then without_timer link L7 r
    else if busy then r
    else with_timer c link L7 r

-- the peer became busy
abbrev pub timed_busy : Configuration → ℕ → Running → Running
timed_busy c link r = r ▷ without_timer link L7 ▷ with_timer c link L6

-- the peer is no longer busy
abbrev pub timed_busy_ended : Configuration → ℕ → (outstanding : ℕ) → Running → Running
timed_busy_ended c link outstanding r =
    if nat_eq outstanding 0 then without_timer link L6 r else r ▷ without_timer link L6 ▷ with_timer c link L7
