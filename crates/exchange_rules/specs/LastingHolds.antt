-- Every hold has a timer that runs, or an answer that is awaited: laws.
use Rattle.std.specs.Prelude.{◌≡◌, ◌≤◌, ◌⊎◌, ◌&&◌, ℕ, Bool, true, false, length, List}
use Rattle.signalling_types.specs.declared.limits.TheConstants.Limits.{LINKS}
use Rattle.settings.specs.Configuration.{Configuration}
use Rattle.timers.specs.declared.name.TimerName.TheVariants.{T1, T2, T3, T4, T6}
use Rattle.timers.specs.Timers.{is_running}
use Rattle.changeover.specs.Changeover.{Standing}
use Rattle.flow_hold.specs.declared.procedure.Procedure.{Procedure}
use Rattle.flow_hold.specs.declared.procedure.Procedure.TheVariants.{Changeover, Code, Time, Reroute}
use Rattle.flow_hold.specs.Holds.{holds}
use Rattle.exchange_rules.specs.State.{Asking, Parts, link_at}
use Rattle.exchange_rules.specs.Frames.{in_outage}
use Rattle.node_links.specs.NodeLinks.{Link, is_down, is_in_service}
use Rattle.exchange_rules.specs.ChangingOver.{changeover_of}
use Rattle.exchange_rules.specs.Lasting.{after_each, HasAllPlaces}
use Rattle.exchange_rules.specs.First.{Abstract, first_state}

-- what ends the holds of a procedure: a changeover that isn't complete yet, or the outage that a link in service is in;
-- or a timer that runs: T4 of a code, T3 of a link that returned, or T6 of a destination
abbrev pub WillEnd : Procedure → Parts → Type 0
WillEnd (Changeover link) p = ((changeover_of p link).incomplete ≡ true) ⊎ (in_outage p link ≡ true)
WillEnd (Code set code) p = is_running (T4 set code) p.timers ≡ true
WillEnd (Time link) p = is_running (T3 link) p.timers ≡ true
WillEnd (Reroute destination) p = is_running (T6 destination) p.timers ≡ true

-- what completes a changeover: while it isn't complete T1 runs, or the answer to its order is awaited; and while that
-- is awaited T2 runs
pub record WillComplete (s : Standing) (t1_runs t2_runs : Bool) : Type 0 where
  pub incomplete : s.incomplete ≡ true → (t1_runs ≡ true) ⊎ (s.awaited ≡ true)
  pub awaited : s.awaited ≡ true → t2_runs ≡ true

-- an outage is of a link in service whose peer takes no messages, so that L6 watches it; and a link without an
-- association is down
pub record WillPass (l : Link) : Type 0 where
  pub watched : l.peer_outage ≡ true → (is_in_service l.alignment && l.peer_busy) ≡ true
  pub alone : l.association ≡ false → is_down l.alignment ≡ true

-- each procedure that holds a flow will end, each changeover will complete, and each outage will pass
pub record AllWillEnd (p : Parts) : Type 0 where
  pub holds : (procedure : Procedure) (destination sls : ℕ) → holds p.holds procedure destination sls ≡ true →
      WillEnd procedure p
  pub changeovers : (link : ℕ) →
      WillComplete (changeover_of p link) (is_running (T1 link) p.timers) (is_running (T2 link) p.timers)
  pub outages : (link : ℕ) → WillPass (link_at p link)

-- this stays so, whatever is asked
abbrev pub holds_stay_timed : Type 0
holds_stay_timed =
    (asked : List Asking) (a : Abstract) → HasAllPlaces a.settings a.node → AllWillEnd a.node.parts →
    AllWillEnd (after_each asked a).node.parts

-- and holds in each state reached from the first
abbrev pub every_hold_has_its_timer_or_its_word : Type 0
every_hold_has_its_timer_or_its_word =
    (c : Configuration) (asked : List Asking) → length c.links ≤ LINKS →
    AllWillEnd (after_each asked (first_state c)).node.parts
