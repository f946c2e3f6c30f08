-- When nodes in code stand for abstract ones, with all packets that these ever put out.
use Rattle.std.specs.Prelude.{◌≡◌, ◌<◌, ◌≤◌, ◌+◌, ◌*◌, ℕ, true, false, All, List, [], Option, Some, None, length, map, slice_get}
use Rattle.std.specs.List.{Contains}
use Rattle.sctp_moves.specs.Numbers.{modulus, window}
use Rattle.sctp_ends.specs.Worlds.{Emitted}
use Rattle.sctp_bundling.specs.ChunkRows.{packet_text}
use Rattle.sctp_bundling.specs.Watching.{Sent}
use Rattle.exchange.specs.Calls as exchanges
use Rattle.network_rules.specs.Totals.{IsJoined}
use Rattle.gate_rules.specs.Worlds.{Port, Make}
use Rattle.gate_rules.specs.Octets.{HavePorts}
use Rattle.network_gates.specs.GateWorlds.{GateWorld, Node, Steps, last_world, new_node, new_world}
use Rattle.network_gates.specs.GatePromises.{settings_of}
use Rattle.node_world.specs.Kept.{KeptPort, KeptNode, node_at, points_of}
use Rattle.node_world.specs.Making.{make_of, no_node}

-- octets that a gate put out are those of a packet
pub record IsPutOut (p : Port) (octets : List ℕ) : Type 0 where
  pub one : Emitted
  pub there : Contains p.packets one
  pub text : octets ≡ packet_text one.packet

abbrev pub IsSentBy : Port → Sent → Type 0
IsSentBy p x = IsPutOut p x.octets

-- all that a gate put out is among these
abbrev pub HasAll : Port → List Sent → Type 0
HasAll p sent =
    (one : Emitted) → Contains p.packets one → Contains (map (λ x. x.octets) sent) (packet_text one.packet)

pub record PortStands (k : KeptPort) (p : Port) : Type 0 where
  pub gate : k.gate ≡ p.gate
  -- what is kept was put out,
  pub sent : All (IsSentBy p) k.log.sent
  -- and while memory never ran out, all that was put out is kept; once it did, fewer than were put out
  pub all : k.log.is_whole ≡ true → HasAll p k.log.sent
  pub few : length k.log.sent ≤ length p.packets
  pub fewer : k.log.is_whole ≡ false → length k.log.sent < length p.packets

pub record NodeStands (k : KeptNode) (n : Node) : Type 0 where
  pub exchange : exchanges.StandsFor k.exchange n.books.exchange
  pub ports : (link : ℕ) (port : KeptPort) → slice_get k.ports link ≡ Some port → PortStands port (n.ports link)

-- where none is kept, one without links, at which nothing was done
abbrev pub IsNodeAt : (point : ℕ) → Option KeptNode → Node → Type 0
IsNodeAt point (Some k) n = NodeStands k n
IsNodeAt point None n = n ≡ new_node (make_of (no_node point) [])

-- by these steps it comes of new nodes at these points, whose links join them
pub record IsReached (points : List ℕ) (w : GateWorld) : Type 0 where
  pub make : (point : ℕ) → Make
  pub joined : IsJoined (settings_of make) points
  pub ports : (point : ℕ) → HavePorts (make point)
  pub list : List GateWorld
  pub steps : Steps (new_world make) list
  pub last : last_world (new_world make) list ≡ w

pub record StandsFor (k : List KeptNode) (w : GateWorld) : Type 0 where
  pub reached : IsReached (points_of k) w
  pub nodes : (point : ℕ) → IsNodeAt point (node_at point k) (w.node point)
  -- each link has a gate
  pub gates : (point : ℕ) (n : KeptNode) → node_at point k ≡ Some n →
      length n.ports ≡ length (w.node point).books.exchange.settings.links

-- octets that a gate put out, since when no more messages passed there than there are numbers, less two windows
pub record IsYoung (p : Port) (octets : List ℕ) : Type 0 where
  pub one : Emitted
  pub there : Contains p.packets one
  pub text : octets ≡ packet_text one.packet
  pub young : p.messages + 2 * window ≤ one.made + modulus
