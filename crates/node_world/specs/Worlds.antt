-- What is done at one of the nodes.
use Rattle.std.specs.Prelude.{ℕ, Bool, true, false, ◌&&◌, List}
use Rattle.exchange.specs.declared.event.Event.{Event}
use Rattle.exchange.specs.declared.event.Event.TheVariants as event
use Rattle.gate_rules.specs.Worlds.{Port}
use Rattle.network_datagrams.specs.NetworkWorlds.{HasEnd}
use Rattle.network_gates.specs.GateWorlds.{GateWorld, shown}
use Rattle.network_gates.specs.Possible.{port_there}
use Rattle.node_world.specs.declared.call.Call.{Call}
use Rattle.node_world.specs.declared.call.Call.TheVariants.{Hear, Tick, Settle, Fill, Close}
use Rattle.node_world.specs.Kept.{KeptNode, has_node}
use Rattle.node_world.specs.Stands.{IsYoung}

-- an event is none that a link brings
abbrev pub is_own : Event → Bool
is_own (event.AssociationUp link) = false
is_own (event.AssociationDown link) = false
is_own (event.Frame link octets) = false
is_own event.Tick = true
is_own (event.Submit message) = true
is_own (event.Order order) = true

-- and there is a node at the point
abbrev pub may_happen : Event → (point : ℕ) → List KeptNode → Bool
may_happen event point k = has_node point k && is_own event

-- a datagram that comes isn't too old, by what the gate did that put it out
abbrev pub MayCome : Call → (octets : List ℕ) → Port → Type 0
MayCome (Hear place source) octets p = IsYoung p octets
MayCome Tick octets p = Unit {0}
MayCome Settle octets p = Unit {0}
MayCome Fill octets p = Unit {0}
MayCome Close octets p = Unit {0}

-- which is that at the other end of the link
abbrev pub MayComeFrom : GateWorld → (point link : ℕ) → Call → (octets : List ℕ) → Type 0
MayComeFrom w point link call octets =
    (e : HasEnd (shown w) point link) → MayCome call octets (port_there w point link e)
