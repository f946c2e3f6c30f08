-- What two nodes with gates promise each other over any network, whatever further neighbours each has.
use Rattle.std.specs.Prelude.{◌≡◌, List}
use Rattle.sctp_ends.specs.Keyed.{keyed}
use Rattle.pair_rules.specs.Pairs.{PairState}
use Rattle.pair_rules.specs.Promises as alone
use Rattle.pair_rules.specs.Promises.{AreJoined, LostNothing, IsPunctual, BothWays}
use Rattle.pair_rules.specs.Sharing.{AreSharing}
use Rattle.neighbour_rules.specs.Promises.{EachOnce, InOrder}
use Rattle.node_rules.specs.Alone.{AreBetween, whole_end}
use Rattle.node_rules.specs.Promises.{end_of}
use Rattle.node_rules.specs.Worlds as nodes
use Rattle.gate_rules.specs.Worlds.{Make, World, new_world, Steps, last_world}

-- after every list of steps of two nodes whose settings share a set, whatever their keys
abbrev pub Always : ((near far : Make) → World → Type 0) → Type 0
Always Statement =
    (near far : Make) → AreSharing near.configuration far.configuration → (list : List World) →
    Steps near far (new_world near far) list → Statement near far (last_world (new_world near far) list)

-- ---- runs are runs of nodes

-- the node of `node_rules` that is made so
abbrev pub node_make : Make → nodes.Make
node_make m = record {
  configuration = m.configuration;
  endpoints = λ link. record {
    settings = (m.gates link).settings;
    secrets = keyed (m.gates link).tag_key (m.gates link).cookie_key;
  };
}

abbrev pub first_nodes : (near far : Make) → nodes.World
first_nodes near far = nodes.new_world (node_make near) (node_make far)

-- there are steps of two nodes of `node_rules`, which may do each of them, that lead to the same exchanges, with the
-- same accepted and received
pub record IsRunOfNodes (near far : Make) (w : World) : Type 0 where
  pub list : List nodes.World
  pub steps : nodes.Steps (node_make near) (node_make far) (first_nodes near far) list
  pub near_is : (nodes.last_world (first_nodes near far) list).near.books ≡ w.near.books
  pub far_is : (nodes.last_world (first_nodes near far) list).far.books ≡ w.far.books

abbrev pub runs_are_runs_of_nodes : Type 0
runs_are_runs_of_nodes = Always IsRunOfNodes

-- ---- the promises, about exchanges and what these accepted and received for each other

abbrev pub ends_of : (near far : Make) → World → PairState
ends_of near far w = record {
  near = end_of near.configuration.own far.configuration.own w.near.books;
  far = end_of far.configuration.own near.configuration.own w.far.books;
}

-- "Exactly once"
abbrev pub each_message_once : Type 0
each_message_once =
    Always (λ near far w. LostNothing (ends_of near far w) → BothWays EachOnce (ends_of near far w))

-- "Order"
abbrev pub each_flow_in_order : Type 0
each_flow_in_order =
    Always (λ near far w.
    LostNothing (ends_of near far w) → BothWays (λ p. IsPunctual p → InOrder p) (ends_of near far w))

-- ---- nodes alone

-- after every list of steps of two nodes whose settings face each other
abbrev pub AlwaysAlone : ((near far : Make) → World → Type 0) → Type 0
AlwaysAlone Statement =
    (near far : Make) → AreJoined near.configuration far.configuration → (list : List World) →
    Steps near far (new_world near far) list → Statement near far (last_world (new_world near far) list)

-- the ends of a pair that have all that the nodes accepted and received
abbrev pub whole_ends : World → PairState
whole_ends w = record { near = whole_end w.near.books; far = whole_end w.far.books }

pub record IsSpecial (near far : Make) (w : World) : Type 0 where
  pub sharing : AreSharing near.configuration far.configuration
  pub near_links : AreBetween near.configuration far.configuration
  pub far_links : AreBetween far.configuration near.configuration
  -- all that either accepted is for the other, and all that it received for itself
  pub all_booked : ends_of near far w ≡ whole_ends w
  -- "Exactly once" and "Order" of all user messages
  pub once : LostNothing (whole_ends w) → BothWays alone.EachOnce (whole_ends w)
  pub in_order : LostNothing (whole_ends w) → BothWays (λ p. IsPunctual p → alone.InOrder p) (whole_ends w)

abbrev pub alone_is_special : Type 0
alone_is_special = AlwaysAlone IsSpecial
