-- What is promised isn't promised of nothing: what may be done at a node, whatever was done before.
use Rattle.std.specs.Prelude.{◌≤◌, ℕ, None, Some}
use Rattle.std.specs.List.{Contains}
use Rattle.settings.specs.Configuration.{Configuration}
use Rattle.signalling_types.specs.Message.{Message}
use Rattle.sctp_rules.specs.Settings.{Address}
use Rattle.sctp_ends.specs.Worlds.{Emitted}
use Rattle.exchange_rules.specs.State.{Happening, CameUp, Submitted, Ticked}
use Rattle.sctp_gate.specs.Calling.{Hears, Ticks, Settles, Fills, Closes}
use Rattle.node_rules.specs.Worlds.{IsBetween, IsOwn, LeadsElsewhere}
use Rattle.gate_rules.specs.Worlds.{Node, MayDo, Happens, Calls, Brings, Leaves}

-- whatever the links of a node don't bring may happen to it: a tick passes, a user part hands a message over
pub record MayHappen (own other : Configuration) (there : Node) : Type 0 where
  pub tick : MayDo own other there (Happens Ticked)
  pub submission : (message : Message) → MayDo own other there (Happens (Submitted message))
  pub each : (what : Happening) → IsOwn what → MayDo own other there (Happens what)

-- the gate of a link between the two may be called in each way; a packet may come that was put out at the other end of
-- the link, at least as long as no message passed there since, and so may what is no packet
pub record MayBeCalled (own other : Configuration) (there : Node) (link : ℕ) (b : IsBetween own other link) : Type 0 where
  pub settles : (now : ℕ) → MayDo own other there (Calls link (Settles now))
  pub fills : (now : ℕ) → MayDo own other there (Calls link (Fills now))
  pub ticks : (now : ℕ) → MayDo own other there (Calls link (Ticks now))
  pub closes : (now : ℕ) → MayDo own other there (Calls link (Closes now))
  pub hears_nothing : (now : ℕ) (source : Address) → MayDo own other there (Calls link (Hears now None source))
  pub hears : (now : ℕ) (source : Address) (one : Emitted) → Contains (there.ports b.there).packets one →
      (there.ports b.there).messages ≤ one.made → MayDo own other there (Calls link (Hears now (Some one.packet) source))

-- and a link that leads elsewhere may open, and sends
pub record MayElsewhere (own other : Configuration) (there : Node) (link : ℕ) : Type 0 where
  pub opens : MayDo own other there (Brings (CameUp link))
  pub leaves : MayDo own other there (Leaves link)

pub record IsPossible (own other : Configuration) (there : Node) : Type 0 where
  pub happens : MayHappen own other there
  pub called : (link : ℕ) (b : IsBetween own other link) → MayBeCalled own other there link b
  pub elsewhere : (link : ℕ) → LeadsElsewhere own other link → MayElsewhere own other there link

abbrev pub steps_are_possible : Type 0
steps_are_possible = (own other : Configuration) (there : Node) → IsPossible own other there
