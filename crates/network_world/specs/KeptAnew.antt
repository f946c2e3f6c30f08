-- What becomes of the nodes of a network, as the code keeps them, where one of them starts again, or gives up following
-- the other end of a link, and where the books of all begin anew.
use Rattle.std.specs.Prelude.{◌≡◌, ◌<◌, ℕ, Bool, true, false, List, [], length, map, Option, Some, None, slice_get, slice_index_or, slice_set}
use Rattle.signalling_types.specs.declared.outcome.Outcome.{Outcome}
use Rattle.signalling_types.specs.declared.outcome.Outcome.TheVariants.{Handled, Ignored}
use Rattle.settings.specs.Configuration.{Configuration}
use Rattle.exchange.specs.KeptQueues.{kept}
use Rattle.exchange.specs.Views.{may_restart_at}
use Rattle.network_world.specs.KeptSites.{first_site}
use Rattle.network_world.specs.KeptNodes.{KeptNode, NodeTurn, node_with}
use Rattle.network_world.specs.KeptNetworks.{NetworkTurn, network_ignored, one_turned, place_at}

-- ---- at one node

-- it starts again with these settings: of what it had, its books alone stay
abbrev pub node_restarts : Configuration → KeptNode → NodeTurn
node_restarts c n = record { outcome = Handled; left = node_with (first_site c) n }

-- it may not follow the other end of a link any more. Ignored, if it might not
abbrev pub gave_up : (might : Bool) → Outcome
gave_up true = Handled
gave_up false = Ignored

abbrev pub node_gives_up : (link : ℕ) → KeptNode → NodeTurn
node_gives_up link n = record {
  outcome = gave_up (slice_index_or n.following link false);
  left = record n { following = slice_set n.following link false };
}

-- its books begin anew
abbrev pub node_begins_anew : KeptNode → KeptNode
node_begins_anew n = record n { accepted = []; arrived = []; entered = []; refused = [] }

-- each of its links may open, and it may follow on none; and nothing is in Held
pub record IsNodeQuiet (n : KeptNode) : Type 0 where
  pub links : (link : ℕ) → link < length n.exchange.settings.links →
      (may_restart_at n.exchange link ≡ true) × (slice_index_or n.following link false ≡ false)
  pub held : kept.held n.exchange.node.queues ≡ []

-- ---- at a point

-- it is done to the node there, if there is one
abbrev pub one_at : (place : Option ℕ) → (KeptNode → NodeTurn) → List KeptNode → NetworkTurn
one_at (Some place) done k = one_turned place done (slice_get k place) k
one_at None done k = network_ignored k

-- the node at the point that these settings are for
abbrev pub kept_restarts : Configuration → List KeptNode → NetworkTurn
kept_restarts c k = one_at (place_at c.own k) (node_restarts c) k

abbrev pub kept_gives_up : (point link : ℕ) → List KeptNode → NetworkTurn
kept_gives_up point link k = one_at (place_at point k) (node_gives_up link) k

-- ---- at all

abbrev pub all_begin_anew : List KeptNode → List KeptNode
all_begin_anew k = map node_begins_anew k

abbrev pub AreQuiet : List KeptNode → Type 0
AreQuiet k = (place : ℕ) (n : KeptNode) → slice_get k place ≡ Some n → IsNodeQuiet n
