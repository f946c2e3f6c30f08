-- What nodes with gates are made of, and what is kept of them at first.
use Rattle.std.specs.Prelude.{◌≡◌, ◌≤◌, ◌+◌, ◌^◌, ℕ, true, false, nat_eq, All, List, [], ◌∷◌, find, map, Option, Some, None, slice_get, length}
use Rattle.settings.specs.Configuration.{Configuration}
use Rattle.sctp_sending.specs.declared.bounds.Bounds.{Bounds}
use Rattle.sctp_rules.specs.Settings.{Settings}
use Rattle.sctp_rules.specs.WrittenPackets.{HasPorts}
use Rattle.sctp_bundling.specs.Settings as endpoints
use Rattle.exchange_rules.specs.First.{first_state}
use Rattle.exchange.specs.Calls.{kept_of}
use Rattle.sctp_gate.specs.Gates.{new_gate}
use Rattle.pair_rules.specs.OneEndFirst.{settings_of}
use Rattle.gate_rules.specs.Worlds.{GateMake, Make}
use Rattle.gate_rules.specs.Octets.{HavePorts}
use Rattle.node_world.specs.declared.making.GateMaking.{GateMaking}
use Rattle.node_world.specs.declared.node_making.NodeMaking.{NodeMaking}
use Rattle.node_world.specs.Kept.{KeptPort, KeptNode}

-- the bounds of timeouts, in milliseconds
pub record AreInOrder (b : Bounds) : Type 0 where
  pub initial : b.initial ≤ b.most
  pub least : b.least ≤ b.most
  pub most : b.most ≤ 2 ^ 24

-- how a gate is made
abbrev pub gate_make : GateMaking → GateMake
gate_make g = record {
  tries = g.tries;
  settings = endpoints.settings_of g.settings;
  tag_key = g.tag_key;
  cookie_key = g.cookie_key;
}

-- that of a link which a node doesn't have: it is never called
abbrev pub no_settings : Settings
no_settings = record {
  own_port = 0;
  far_port = 0;
  address = record { host = []; port = 0 };
  addresses = [];
  bounds = record { initial = 0; least = 0; most = 0 };
  init_retransmissions = 0;
  retransmissions = 0;
  heartbeat = 0;
  cookie_life = 0;
}

abbrev pub gate_make_of : Option GateMaking → GateMake
gate_make_of None = record { tries = false; settings = no_settings; tag_key = []; cookie_key = [] }
gate_make_of (Some g) = gate_make g

-- how a node is made of its settings and those of its gates, one for each link
abbrev pub make_of : Configuration → List GateMaking → Make
make_of c gates = record { configuration = c; gates = λ link. gate_make_of (slice_get gates link) }

-- the ports of all gates have 16 bits
abbrev pub HaveAllPorts : List GateMaking → Type 0
HaveAllPorts gates = (link : ℕ) → HasPorts (gate_make_of (slice_get gates link)).settings

-- the bounds of all are in order
abbrev pub AreAllInOrder : List GateMaking → Type 0
AreAllInOrder gates = (link : ℕ) → AreInOrder (gate_make_of (slice_get gates link)).settings.bounds

-- there are as many gates as links, and the bounds of each gate's timeouts are in order
pub record Suits (c : Configuration) (gates : List GateMaking) : Type 0 where
  pub many : length gates ≡ length c.links
  pub order : AreAllInOrder gates

-- ---- the nodes of a world

-- how one is made
abbrev pub its_make : NodeMaking → Make
its_make m = make_of m.settings m.gates.items

-- there are as many gates as links at each, and the bounds of all are in order
abbrev pub SuitsAll : List NodeMaking → Type 0
SuitsAll nodes = All (λ m. Suits m.settings m.gates.items) nodes

-- all ports of each have 16 bits
abbrev pub HavePortsAll : List NodeMaking → Type 0
HavePortsAll nodes = All (λ m. HavePorts (its_make m)) nodes

-- the first of these for a point
abbrev pub making_for : List NodeMaking → (point : ℕ) → Option NodeMaking
making_for nodes point = find (λ m. nat_eq m.settings.own point) nodes

-- where there is none, a node without links
abbrev pub no_node : (point : ℕ) → Configuration
no_node point = record (settings_of point point) { sets = []; links = []; destinations = [] }

abbrev pub make_or : (point : ℕ) → Option NodeMaking → Make
make_or point (Some m) = its_make m
make_or point None = make_of (no_node point) []

abbrev pub make_at : List NodeMaking → (point : ℕ) → Make
make_at nodes point = make_or point (making_for nodes point)

-- ---- what is kept at first

abbrev pub first_port : (link : ℕ) → GateMake → KeptPort
first_port link m = record {
  gate = new_gate link m.tries m.settings m.tag_key m.cookie_key;
  log = record { sent = []; is_whole = true };
}

-- the gates from a link on
abbrev pub first_ports : (link : ℕ) → List GateMaking → List KeptPort
first_ports link [] = []
first_ports link (g ∷ gates) = first_port link (gate_make g) ∷ first_ports (link + 1) gates

abbrev pub first_node : Configuration → List GateMaking → KeptNode
first_node c gates = record { exchange = kept_of (first_state c); ports = first_ports 0 gates }

abbrev pub node_first : NodeMaking → KeptNode
node_first m = first_node m.settings m.gates.items

abbrev pub first_nodes : List NodeMaking → List KeptNode
first_nodes nodes = map node_first nodes
