-- Messages that leave a list of the code one after the other, and those of a list that are lost.
use Rattle.std.specs.Prelude.{ℕ, Bool, true, false, List, [], ◌∷◌, take, Option, Some, None, slice_get, slice_set, if◌then◌else◌}
use Rattle.signalling_types.specs.Message.{Message, flow_of, is_management}
use Rattle.settings.specs.Configuration.{Configuration}
use Rattle.signalling_types.specs.declared.cause.Cause.TheVariants.{LostUnconfirmed, NoRoute}
use Rattle.cell_pool.specs.Lanes.{lane_at, pushed, dropped}
use Rattle.cell_pool.specs.Moves.{first_behind}
use Rattle.link.specs.Counts.{kept_emptied}
use Rattle.changeover.specs.Kept.{kept_done_with}
use Rattle.changeover.specs.Lanes.{spliced}
use Rattle.exchange_rules.specs.State.{Parts, Node, with_parts}
use Rattle.exchange.specs.KeptQueues.{KeptQueues, held_lane, lane_of, counts_at}
use Rattle.exchange_rules.specs.Routing.{link_of, waits}
use Rattle.exchange_rules.specs.Telling.{unsent}
use Rattle.exchange_rules.specs.ChangingOver.{lose}

-- a message goes to the end of a list, or is dropped, which changes the parts
pub data Fate : Type 0 where
  GoesTo : (lane : ℕ) → Fate
  IsDropped : (parts : Parts) → Fate

abbrev pub fate_on : Option ℕ → (dropped : Parts) → Fate
fate_on (Some link) dropped = GoesTo (lane_of link)
fate_on None dropped = IsDropped dropped

-- what becomes of a management message that goes out again
abbrev pub anew : Configuration → Message → Parts → Fate
anew c m p = fate_on (link_of c p (flow_of m)) (unsent NoRoute m p)

-- what becomes of a message of Held
abbrev pub onward_by : (is_waiting : Bool) → Configuration → Message → Parts → Fate
onward_by true c m p = GoesTo held_lane
onward_by false c m p = fate_on (link_of c p (flow_of m)) (lose NoRoute m p)

abbrev pub onward : Configuration → Message → Parts → Fate
onward c m p = onward_by (waits c p.holds m) c m p

-- a message that is in no list meets its fate
abbrev pub placed : Fate → Message → Node KeptQueues → Node KeptQueues
placed (GoesTo lane) m node = record node { queues = record node.queues { lanes = pushed node.queues.lanes lane m } }
placed (IsDropped parts) m node = with_parts node parts

abbrev pub placed_each : (Message → Parts → Fate) → List Message → Node KeptQueues → Node KeptQueues
placed_each fate [] node = node
placed_each fate (m ∷ ms) node = placed_each fate ms (placed (fate m node.parts) m node)

-- the lists without the first messages of one
abbrev pub without_first : (count lane : ℕ) → Node KeptQueues → Node KeptQueues
without_first count lane node =
    record node { queues = record node.queues { lanes = dropped node.queues.lanes lane count } }

-- the first messages of a list are taken out, and each meets its fate, in order
abbrev pub drained : (Message → Parts → Fate) → (count lane : ℕ) → Node KeptQueues → Node KeptQueues
drained fate count lane node =
    placed_each fate (take count (lane_at node.queues.lanes lane)) (without_first count lane node)

-- the first message of a list meets its fate
abbrev pub gone : Fate → ℕ → Node KeptQueues → Node KeptQueues
gone (GoesTo target) lane node =
    record node { queues = record node.queues { lanes = first_behind node.queues.lanes lane target } }
gone (IsDropped parts) lane node = with_parts (without_first 1 lane node) parts

abbrev pub gone_by : (Message → Parts → Fate) → Option Message → ℕ → Node KeptQueues → Node KeptQueues
gone_by fate (Some m) lane node = gone (fate m node.parts) lane node
gone_by fate None lane node = node

abbrev pub first_gone : (Message → Parts → Fate) → ℕ → Node KeptQueues → Node KeptQueues
first_gone fate lane node = gone_by fate (slice_get (lane_at node.queues.lanes lane) 0) lane node

-- ---- a completion

-- the queues when the user messages that move go before all of Held, and the management messages are left
abbrev pub spliced_queues : KeptQueues → ℕ → Option ℕ → KeptQueues
spliced_queues k link number = record {
  lanes = spliced k.lanes (lane_of link) (kept_done_with (counts_at k.counts link) number) held_lane;
  counts = slice_set k.counts link (kept_emptied (counts_at k.counts link));
}

-- a message is lost, if it is a user message
abbrev pub lose_one : Option Message → Parts → Parts
lose_one (Some m) p = if is_management m then p else lose LostUnconfirmed m p
lose_one None p = p

-- the user messages of a list are lost
abbrev pub lose_users : List Message → Parts → Parts
lose_users [] p = p
lose_users (m ∷ ms) p = lose_users ms (lose_one (Some m) p)

abbrev pub lose_first : ℕ → List Message → Parts → Parts
lose_first count lane p = lose_users (take count lane) p
