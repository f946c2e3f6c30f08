-- What ticks alone end: laws.
use Rattle.std.specs.Prelude.{◌≡◌, ◌≤◌, ◌+◌, ℕ, zero, suc, max, false, length, List, [], ◌∷◌, unwrap_or, if◌then◌else◌}
use Rattle.signalling_types.specs.declared.limits.TheConstants.Limits.{LINKS}
use Rattle.settings.specs.Configuration.{Configuration}
use Rattle.settings.specs.declared.timer_ticks.TimerTicks.{TimerTicks}
use Rattle.timers.specs.declared.name.TimerName.TheVariants.{L4, L6, L7, Slt1, Slt2}
use Rattle.timers.specs.Timers.{Running, is_running}
use Rattle.flow_hold.specs.declared.procedure.Procedure.{Procedure}
use Rattle.flow_hold.specs.Holds.{holds}
use Rattle.exchange_rules.specs.State.{Asking, Happens, Ticked}
use Rattle.exchange_rules.specs.LinkTests.{answer_ticks, pause_ticks, tests_links}
use Rattle.exchange_rules.specs.Lasting.{after_each}
use Rattle.exchange_rules.specs.First.{Abstract, first_state}

-- n ticks, and nothing else
abbrev pub ticks_alone : ℕ → List Asking
ticks_alone zero = []
ticks_alone (suc more) = Happens Ticked ∷ ticks_alone more

-- no timer runs that may take a link into service or out of it: no link is proved, no peer is busy, everything sent is
-- confirmed, and no link is tested
pub record IsQuiet (r : Running) : Type 0 where
  pub l4 : (link : ℕ) → is_running (L4 link) r ≡ false
  pub l6 : (link : ℕ) → is_running (L6 link) r ≡ false
  pub l7 : (link : ℕ) → is_running (L7 link) r ≡ false
  pub slt1 : (link : ℕ) → is_running (Slt1 link) r ≡ false
  pub slt2 : (link : ℕ) → is_running (Slt2 link) r ≡ false

-- the longest of the first three; each runs one tick at least
abbrev pub longest_turn : TimerTicks → ℕ
longest_turn ticks = max 1 (max (max ticks.l4 (unwrap_or ticks.l4e 0)) (max ticks.l6 ticks.l7))

-- how long a link is tested that doesn't answer, at most: a pause, a test, and the test that is repeated
abbrev pub longest_tests : Configuration → ℕ
longest_tests c =
    if tests_links c then max 1 (pause_ticks c) + (max 1 (answer_ticks c) + max 1 (answer_ticks c)) else 0

-- the longest of the timers that complete changeovers and end holds
abbrev pub longest_wait : TimerTicks → ℕ
longest_wait ticks = max 1 (max ticks.t1 (max ticks.t2 (max ticks.t3 (max ticks.t4 ticks.t6))))

-- no flow is held, and no message waits in Held
pub record HoldsNothing (a : Abstract) : Type 0 where
  pub flows : (procedure : Procedure) (destination sls : ℕ) →
      holds a.node.parts.holds procedure destination sls ≡ false
  pub messages : a.node.queues.held ≡ []

-- this is so if nothing but ticks happens for as long, from each quiet state reached from the first; where orders go by
-- any route, one tick more: at its end one may go out late, and then T2 starts
abbrev pub ticks_end_holds_where_it_is_quiet : Type 0
ticks_end_holds_where_it_is_quiet =
    (c : Configuration) (asked : List Asking) (many : ℕ) → length c.links ≤ LINKS →
    IsQuiet (after_each asked (first_state c)).node.parts.timers →
    longest_wait c.timers + (if c.changeover_by_any_route then 1 else 0) ≤ many →
    HoldsNothing (after_each (ticks_alone many) (after_each asked (first_state c)))

-- from any other, if it happens for as long as the three times together: the timers that take links into or out of
-- service run out first, and then those of tests
abbrev pub ticks_end_all_holds : Type 0
ticks_end_all_holds =
    (c : Configuration) (asked : List Asking) (many : ℕ) → length c.links ≤ LINKS →
    longest_turn c.timers + longest_tests c + longest_wait c.timers ≤ many →
    HoldsNothing (after_each (ticks_alone many) (after_each asked (first_state c)))
