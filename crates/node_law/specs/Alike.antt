-- A network of `network_rules` each of whose links has its other end in it has the nodes of one of `node_moves`.
use Rattle.std.specs.Prelude.{◌≡◌, ◌<◌, ℕ, true, nat_eq, List, filter, is_some, length, map}
use Rattle.signalling_types.specs.Message.{Message}
use Rattle.settings.specs.Configuration.{Configuration}
use Rattle.node_moves.specs.Laws.{AreTheirs}
use Rattle.node_moves.specs.Networks as nodes
use Rattle.node_moves.specs.Networks.{IsNode, messages_of}
use Rattle.pair_rules.specs.Pairs.{in_flight, may_follow}
use Rattle.network_rules.specs.Networks.{Arrival, NetworkNode, NetworkState, end_of, first_network, other_end}
use Rattle.network_rules.specs.Outside.{Move, after_moves}
use Rattle.network_rules.specs.Totals.{IsPlaced}

-- each link has its other end in the network: a link of a node, with its code, that leads back
abbrev pub AreLinked : NetworkState → Type 0
AreLinked w =
    (point link : ℕ) → link < length (w.node point).exchange.settings.links → is_some (other_end w point link) ≡ true

-- of the messages that came to a node, those that came by one of its links
abbrev pub came_by : (link : ℕ) → List Arrival → List Message
came_by link arrived = map (λ a. a.message) (filter (λ a. nat_eq a.link link) arrived)

-- two nodes are alike: they have the same state, but for reroutings, with the same in flight to them, and may follow
-- alike; they accepted the same messages, and the same came to them by each link. Of what entered, and of what was
-- refused, nothing is said
pub record AreAlike (x : NetworkNode) (y : nodes.NetworkNode) : Type 0 where
  pub node : x.exchange.node ≡ y.node
  pub statuses : (link : ℕ) → in_flight x.incoming.statuses link ≡ y.statuses link
  pub user_data : (link : ℕ) → in_flight x.incoming.user_data link ≡ y.user_data link
  pub follows : (link : ℕ) → may_follow (end_of x) link ≡ y.follows link
  pub accepted : x.accepted ≡ y.accepted
  pub came : (link : ℕ) → came_by link x.arrived ≡ messages_of (y.came link)

-- there is a network of `node_moves`, of nodes with the same settings, whose nodes are alike after some steps
pub record IsRunOfNodes (w : NetworkState) : Type 0 where
  pub settings : (point : ℕ) → Configuration
  pub same : (point : ℕ) → (w.node point).exchange.settings ≡ settings point
  pub theirs : AreTheirs settings
  pub steps : List nodes.Step
  pub alike : (point : ℕ) → IsNode settings point → AreAlike (w.node point)
      ((nodes.after_steps settings steps (nodes.first_network settings)).node point)

-- so it is after all moves
abbrev pub runs_are_runs_of_nodes : Type 0
runs_are_runs_of_nodes =
    (settings : (point : ℕ) → Configuration) (points : List ℕ) (moves : List Move) → IsPlaced settings points →
    AreLinked (first_network settings) → IsRunOfNodes (after_moves moves (first_network settings))
