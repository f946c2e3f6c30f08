-- The nodes of a network as the code keeps them, and what becomes of what is done at one of them.
use Rattle.std.specs.Prelude.{ℕ, Bool, nat_eq, List, find, map, position, slice_get, slice_set, Option, Some, None, if◌then◌else◌}
use Rattle.std.specs.Option.{option_and_then, option_map}
use Rattle.signalling_types.specs.declared.outcome.Outcome.{Outcome}
use Rattle.signalling_types.specs.declared.outcome.Outcome.TheVariants.{Ignored}
use Rattle.settings.specs.Configuration.{Configuration, LinkEntry}
use Rattle.exchange_rules.specs.Routing.{adjacent_of}
use Rattle.pair_rules.specs.Pairs.{Doing, Takes, OpensFirst}
use Rattle.neighbour_rules.specs.Neighbours.{end_there}
use Rattle.network_world.specs.declared.doing.Reach.{Reach}
use Rattle.network_world.specs.declared.doing.Reach.TheVariants as reach
use Rattle.network_world.specs.KeptNodes.{BothTurn, KeptNode, NodeTurn, both_did, node_did, node_takes}

-- what became of something, and the nodes after it
pub record NetworkTurn : Type 0 where
  pub outcome : Outcome
  pub left : List KeptNode

abbrev pub network_ignored : List KeptNode → NetworkTurn
network_ignored k = record { outcome = Ignored; left = k }

-- ---- the node at a point

abbrev pub is_at : (point : ℕ) → KeptNode → Bool
is_at point n = nat_eq n.exchange.settings.own point

abbrev pub kept_at : (point : ℕ) → List KeptNode → Option KeptNode
kept_at point k = find (is_at point) k

-- its place among the nodes, and the node by it
abbrev pub place_at : (point : ℕ) → List KeptNode → Option ℕ
place_at point k = position (is_at point) k

abbrev pub node_at : (point : ℕ) → List KeptNode → Option KeptNode
node_at point k = option_and_then (slice_get k) (place_at point k)

-- the points of all nodes
abbrev pub points_of : List KeptNode → List ℕ
points_of k = map (λ n. n.exchange.settings.own) k

-- ---- the other end of a link

-- a link of the node at a place
pub record KeptPlace : Type 0 where
  pub place : ℕ
  pub link : ℕ

abbrev pub end_at : Configuration → LinkEntry → (place : ℕ) → Option KeptNode → Option KeptPlace
end_at c l place (Some far) =
    option_map (λ other. record { place = place; link = other }) (end_there c far.exchange.settings (Some l))
end_at c l place None = None

abbrev pub end_by : List KeptNode → Configuration → Option LinkEntry → Option KeptPlace
end_by k c (Some l) = option_and_then (λ place. end_at c l place (slice_get k place)) (place_at (adjacent_of c l.set) k)
end_by k c None = None

abbrev pub kept_other_end : List KeptNode → Option KeptNode → (link : ℕ) → Option KeptPlace
kept_other_end k (Some n) link = end_by k n.exchange.settings (slice_get n.exchange.settings.links link)
kept_other_end k None link = None

-- ---- what is done at the node at a place

abbrev pub one_turned : (place : ℕ) → (KeptNode → NodeTurn) → Option KeptNode → List KeptNode → NetworkTurn
one_turned place done (Some n) k = record { outcome = (done n).outcome; left = slice_set k place (done n).left }
one_turned place done None k = network_ignored k

abbrev pub both_turned : (near far : ℕ) → BothTurn → List KeptNode → NetworkTurn
both_turned near far t k = record { outcome = t.outcome; left = slice_set (slice_set k near t.near) far t.far }

-- with the other end of the link, which is at another place
abbrev pub reached_at : Reach → (place link far other : ℕ) → (near there : Option KeptNode) → List KeptNode
    → NetworkTurn
reached_at what place link far other (Some near) (Some there) k =
    if nat_eq place far then network_ignored k
    else both_turned place far (both_did what link other near there) k
reached_at what place link far other (Some near) None k = network_ignored k
reached_at what place link far other None there k = network_ignored k

-- where there is no other end, a frame that is fetched goes nowhere
abbrev pub reached_none : Reach → (place link : ℕ) → List KeptNode → NetworkTurn
reached_none reach.Fetch place link k = one_turned place (node_takes link) (slice_get k place) k
reached_none reach.Open place link k = network_ignored k

abbrev pub reached_by : Reach → (place link : ℕ) → Option KeptPlace → List KeptNode → NetworkTurn
reached_by what place link (Some there) k =
    reached_at what place link there.place there.link (slice_get k place) (slice_get k there.place) k
reached_by what place link None k = reached_none what place link k

abbrev pub kept_reaches : Reach → (place link : ℕ) → List KeptNode → NetworkTurn
kept_reaches what place link k = reached_by what place link (kept_other_end k (slice_get k place) link) k

abbrev pub kept_did : Doing → (place : ℕ) → List KeptNode → NetworkTurn
kept_did (Takes link) place k = kept_reaches reach.Fetch place link k
kept_did (OpensFirst link) place k = kept_reaches reach.Open place link k
kept_did what place k = one_turned place (node_did what) (slice_get k place) k

abbrev pub kept_did_at : Doing → Option ℕ → List KeptNode → NetworkTurn
kept_did_at what (Some place) k = kept_did what place k
kept_did_at what None k = network_ignored k

-- where no node is at the point, nothing is done
abbrev pub network_turn : Doing → (point : ℕ) → List KeptNode → NetworkTurn
network_turn what point k = kept_did_at what (place_at point k) k
