-- How many user messages wait at an end for the other, by what is kept of both exchanges.
use Rattle.std.specs.Prelude.{ℕ, ◌+◌, ◌&&◌, Bool, count_by, length, nat_eq, Option, Some, None, slice_get}
use Rattle.signalling_types.specs.Message.{Message, dpc_of}
use Rattle.cell_pool.specs.Lanes.{is_user_picked}
use Rattle.exchange.specs.Counting.{kept_behind_number}
use Rattle.exchange.specs.KeptQueues.{kept, counts_at, link_lane}
use Rattle.exchange.specs.Calls.{Kept}
use Rattle.neighbour_rules.specs.Neighbours.{end_there}
use Rattle.pair_moves.specs.Laws.{sum_to}
use Rattle.network_world.specs.KeptSites.{accepted_number}

-- of the messages that a choice takes, those for a point
abbrev pub picked_to : (point : ℕ) → (Message → Bool) → Message → Bool
picked_to point picks m = nat_eq (dpc_of m) point && picks m

-- how many of these wait on a link at the near exchange: behind the count that the number of the last message accepted
-- at the far end of the link names. Where it has none, no message waits
abbrev pub kept_waiting_by : (Message → Bool) → (near far : Kept) → (link : ℕ) → (other : Option ℕ) → ℕ
kept_waiting_by picks near far link (Some other) =
    count_by (is_user_picked (picked_to far.settings.own picks))
    (kept_behind_number (counts_at near.node.queues.counts link) (link_lane near.node.queues link)
    (accepted_number far other))
kept_waiting_by picks near far link None = 0

abbrev pub kept_waiting_on : (Message → Bool) → (near far : Kept) → (link : ℕ) → ℕ
kept_waiting_on picks near far link =
    kept_waiting_by picks near far link (end_there near.settings far.settings (slice_get near.settings.links link))

-- and how many in all
abbrev pub kept_waiting : (Message → Bool) → (near far : Kept) → ℕ
kept_waiting picks near far =
    sum_to (kept_waiting_on picks near far) (length near.settings.links)
    + count_by (is_user_picked (picked_to far.settings.own picks)) (kept.held near.node.queues)
