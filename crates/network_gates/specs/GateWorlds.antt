-- A network of exchanges with a gate for each of their links, and all packets that these ever put out. What is done at
-- a node is calls of its gates, and other things that happen to its exchange. What a call leaves of a node is that of
-- `gate_rules`, and what a node books that of `network_rules`.
use Rattle.std.specs.Prelude.{◌≡◌, ℕ, List, [], ◌∷◌, nat_eq, if◌then◌else◌}
use Rattle.exchange_rules.specs.State.{Happening}
use Rattle.sctp_gate.specs.Calling.{Call}
use Rattle.network_rules.specs.Networks.{NetworkNode, NetworkState, first_node, sends}
use Rattle.node_rules.specs.Worlds.{IsOwn}
use Rattle.network_datagrams.specs.NetworkWorlds.{HasEnd, happened}
use Rattle.gate_rules.specs.Calls.{Keeping}
use Rattle.gate_rules.specs.Worlds.{GateNode, Make, MayCall, done_by, new_port, with_call}

-- ---- a node

-- it keeps its exchange and its books, with nothing ever in flight to it
abbrev pub Node : Type 0
Node = GateNode NetworkNode

abbrev pub node_kept : Keeping NetworkNode
node_kept = record {
  exchange = λ x. x.exchange;
  with_exchange = λ a x. record x { exchange = a };
  happened = happened;
  took = sends;
}

abbrev pub new_node : Make → Node
new_node m = record { books = first_node m.configuration; ports = λ link. new_port link (m.gates link) }

-- ---- what is done at a node

pub data Doing : Type 0 where
  -- something happens to the exchange that its links don't bring
  Happens : (what : Happening) → Doing
  -- the gate of a link is called
  Calls : (link : ℕ) (call : Call) → Doing

abbrev pub did : Doing → Node → Node
did (Happens what) n = record n { books = happened what n.books }
did (Calls link call) n = with_call node_kept call link (done_by node_kept call link n) n

-- ---- all nodes

-- the network between them is what each gate put out: any of it may come to the other end of its link, at any moment,
-- any number of times, in any order, or never
pub record GateWorld : Type 0 where
  pub node : (point : ℕ) → Node

abbrev pub new_world : (make : (point : ℕ) → Make) → GateWorld
new_world make = record { node = λ point. new_node (make point) }

-- as a network whose nodes have booked this
abbrev pub shown : GateWorld → NetworkState
shown w = record { node = λ point. (w.node point).books }

abbrev pub after : (point : ℕ) → Doing → GateWorld → GateWorld
after point what w = record { node = λ other. if nat_eq other point then did what (w.node other) else w.node other }

-- ---- when

-- the gate of a link may be called at any moment; a packet that comes was put out by the gate at its other end, and
-- isn't too old
abbrev pub MayDo : (w : GateWorld) → (point : ℕ) → Doing → Type 0
MayDo w point (Happens what) = IsOwn what
MayDo w point (Calls link call) =
    (e : HasEnd (shown w) point link) × MayCall ((w.node e.there.point).ports e.there.link) call

pub record Step (w v : GateWorld) : Type 0 where
  pub point : ℕ
  pub what : Doing
  pub may : MayDo w point what
  pub is : v ≡ after point what w

-- from one world on, by steps, through the worlds of a list
abbrev pub Steps : GateWorld → List GateWorld → Type 0
Steps w [] = Unit {0}
Steps w (v ∷ rest) = Step w v × Steps v rest

abbrev pub last_world : GateWorld → List GateWorld → GateWorld
last_world w [] = w
last_world w (v ∷ rest) = last_world v rest
