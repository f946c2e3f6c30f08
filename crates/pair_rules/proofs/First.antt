-- The first world: two nodes as they are booted, and nothing between them.
use Rattle.pair_rules.proofs.Basics.{false, [], length, replicate, slice_index_or}
use Rattle.pair_rules.proofs.Definitions.{Configuration, IsWell, IsQueue, first_queue, each-replicate, Fits}
use Rattle.link.proofs.Sound.{sound-first}
use Rattle.exchange_rules.specs.First.{first_state}
use Rattle.exchange_rules.proofs.LastingPlaces.{places-first}
use Rattle.pair_rules.proofs.World.{Flying, Mid, World}

-- ---- the first world

abbrev pub first_mid : Configuration → Mid
first_mid c = record { node = (first_state c).node; arrived = []; loose = []; accepted = []; received = [] }

abbrev pub nothing_flies : Flying
nothing_flies = record { statuses = λ link. []; user_data = λ link. [] }

abbrev pub first_world : (near far : Configuration) → World
first_world near far = record {
  near = first_mid near;
  far = first_mid far;
  to_near = nothing_flies;
  to_far = nothing_flies;
  near_may = λ link. slice_index_or (replicate (length near.links) false) link false;
  far_may = λ link. slice_index_or (replicate (length far.links) false) link false;
}

pub fits-first : (c : Configuration) → IsWell c → Fits c (first_state c).node
fits-first c well = record {
  places = places-first c well.link_count.below;
  queues = record { each = λ link. each-replicate (IsQueue c.window) (length c.links) link first_queue (sound-first c.window well.window.below) };
}
