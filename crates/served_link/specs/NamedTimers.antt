-- A link fails by the timer that is named: a law of the abstract exchange.
use Rattle.std.specs.Prelude.{◌≡◌, ◌≤◌, ℕ, ◌==◌, ◌||◌, Bool, true, false, List, length, Option, None, Some}
use Rattle.settings.specs.Configuration.{Configuration}
use Rattle.signalling_types.specs.declared.limits.TheConstants.Limits.{LINKS, WINDOW}
use Rattle.link.specs.Table.{timer_number}
use Rattle.link.specs.declared.action.LinkTimer.{LinkTimer}
use Rattle.link.specs.declared.action.LinkTimer.TheVariants as timer
use Rattle.exchange_rules.specs.State.{Asking, Happening, is_link}
use Rattle.exchange_rules.specs.Aligning.{RunsOut}
use Rattle.exchange_rules.specs.First.{first_state}
use Rattle.exchange_rules.specs.Lasting.{after_each}
use Rattle.exchange_rules.specs.LawsOfCauses.{fails_by}
use Rattle.exchange_rules.specs.Queues.{whole}
use Rattle.exchange_rules.specs.Timing.{timer_name}
use Rattle.served_link.specs.LinkFailures.{failing_at}
use Rattle.served_link.specs.declared.link_failure.FailingTimer.{FailingTimer}
use Rattle.served_link.specs.declared.link_failure.FailingTimer.TheVariants.{L1, L2, L3, L6, L7, L6OrL7}

-- whether a timer is the one of this name, or one of two
abbrev pub stands_for : FailingTimer → LinkTimer → Bool
stands_for L1 t = timer_number timer.L1 == timer_number t
stands_for L2 t = timer_number timer.L2 == timer_number t
stands_for L3 t = timer_number timer.L3 == timer_number t
stands_for L6 t = timer_number timer.L6 == timer_number t
stands_for L7 t = timer_number timer.L7 == timer_number t
stands_for L6OrL7 t = timer_number timer.L6 == timer_number t || (timer_number timer.L7 == timer_number t)

abbrev pub is_named : LinkTimer → Option FailingTimer → Bool
is_named t None = false
is_named t (Some name) = stands_for name t

-- in each state reached from the first: where a timer of a link runs out at a tick by which the link may fail, that is
-- the one that is named as the tick begins
abbrev pub failing_timers_are_named : Type 0
failing_timers_are_named =
    (c : Configuration) (asked : List Asking) (link : ℕ) (t : LinkTimer) (what : Happening) →
    length c.links ≤ LINKS → c.window ≤ WINDOW →
    is_link (after_each asked (first_state c)).node.parts link ≡ true →
    fails_by t ≡ true →
    RunsOut (timer_name link t) what (after_each asked (first_state c)).node.parts.timers →
    is_named t (failing_at whole (after_each asked (first_state c)) link) ≡ true
