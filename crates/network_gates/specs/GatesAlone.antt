-- Two nodes of a network that have only each other, as the two of `gate_rules`.
use Rattle.std.specs.Prelude.{ℕ, map}
use Rattle.changeover.specs.Changeover.{users_of}
use Rattle.network_rules.specs.Networks.{NetworkNode}
use Rattle.node_rules.specs.Worlds.{Books}
use Rattle.pair_rules.specs.Promises.{AreJoined}
use Rattle.gate_rules.specs.Worlds as gates
use Rattle.gate_rules.specs.Worlds.{World}
use Rattle.gate_rules.specs.Promises.{IsSpecial}
use Rattle.network_gates.specs.GateWorlds.{GateWorld, Node}
use Rattle.network_gates.specs.GatePromises.{Always}

-- of what a node has booked, all that it accepted, and all user messages that came to it
abbrev pub books_of : NetworkNode → Books
books_of x = record {
  exchange = x.exchange;
  accepted = x.accepted;
  received = users_of (map (λ a. a.message) x.arrived);
}

abbrev pub one_of_two : Node → gates.Node
one_of_two n = record { books = books_of n.books; ports = n.ports }

abbrev pub two_of : GateWorld → (near far : ℕ) → World
two_of w near far = record { near = one_of_two (w.node near); far = one_of_two (w.node far) }

-- where the settings of two nodes face each other
abbrev pub nodes_alone_are_special : Type 0
nodes_alone_are_special =
    Always (λ make points w.
    (near far : ℕ) → AreJoined (make near).configuration (make far).configuration →
    IsSpecial (make near) (make far) (two_of w near far))
