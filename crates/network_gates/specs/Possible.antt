-- What is promised isn't promised of nothing: what may be done at a node of a network, whatever was done before.
use Rattle.std.specs.Prelude.{◌≤◌, ℕ, None, Some}
use Rattle.std.specs.List.{Contains}
use Rattle.signalling_types.specs.Message.{Message}
use Rattle.sctp_rules.specs.Settings.{Address}
use Rattle.sctp_ends.specs.Worlds.{Emitted}
use Rattle.exchange_rules.specs.State.{Happening, Submitted, Ticked}
use Rattle.sctp_gate.specs.Calling.{Hears, Ticks, Settles, Fills, Closes}
use Rattle.node_rules.specs.Worlds.{IsOwn}
use Rattle.network_datagrams.specs.NetworkWorlds.{HasEnd}
use Rattle.gate_rules.specs.Worlds.{Port}
use Rattle.network_gates.specs.GateWorlds.{GateWorld, MayDo, Happens, Calls, shown}

-- the gate at the other end of a link
abbrev pub port_there : (w : GateWorld) (point link : ℕ) → HasEnd (shown w) point link → Port
port_there w point link e = (w.node e.there.point).ports e.there.link

-- the gate of a link may be called in each way; a packet may come that the gate at its other end put out, at least as
-- long as no message passed there since, and so may what is no packet
pub record MayBeCalled (w : GateWorld) (point link : ℕ) (e : HasEnd (shown w) point link) : Type 0 where
  pub settles : (now : ℕ) → MayDo w point (Calls link (Settles now))
  pub fills : (now : ℕ) → MayDo w point (Calls link (Fills now))
  pub ticks : (now : ℕ) → MayDo w point (Calls link (Ticks now))
  pub closes : (now : ℕ) → MayDo w point (Calls link (Closes now))
  pub hears_nothing : (now : ℕ) (source : Address) → MayDo w point (Calls link (Hears now None source))
  pub hears : (now : ℕ) (source : Address) (one : Emitted) → Contains (port_there w point link e).packets one →
      (port_there w point link e).messages ≤ one.made → MayDo w point (Calls link (Hears now (Some one.packet) source))

-- and whatever the links of a node don't bring may happen to it: a tick passes, a user part hands a message over
pub record IsPossible (w : GateWorld) (point : ℕ) : Type 0 where
  pub tick : MayDo w point (Happens Ticked)
  pub submission : (message : Message) → MayDo w point (Happens (Submitted message))
  pub each : (what : Happening) → IsOwn what → MayDo w point (Happens what)
  pub called : (link : ℕ) (e : HasEnd (shown w) point link) → MayBeCalled w point link e

abbrev pub steps_are_possible : Type 0
steps_are_possible = (w : GateWorld) (point : ℕ) → IsPossible w point
