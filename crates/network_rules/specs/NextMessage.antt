-- The run of `TwoFailures` goes on: the next message of its flow goes the same way. Both come from end to end, in
-- order.
use Rattle.std.specs.Prelude.{◌≡◌, List, [], ◌∷◌, map}
use Rattle.signalling_types.specs.Message.{Message, flow_of}
use Rattle.pair_rules.specs.Pairs.{Submits, Takes, Delivers}
use Rattle.pair_rules.specs.Promises.{of_flow}
use Rattle.neighbour_rules.specs.ThirdNode.{the_message}
use Rattle.network_rules.specs.Networks.{Arrival, NetworkNode, NetworkState, after_steps}
use Rattle.network_rules.specs.Paths.{ComesInOrder, EachOnlyPasses}
use Rattle.network_rules.specs.Hops.{AreOpenHops}
use Rattle.network_rules.specs.TwoFailures.{come, done_at, fourth_line, row, second_line, sends, users_come}

-- it has the label of the first
abbrev pub the_next : Message
the_next = record { sio = 133; sif = 2 ∷ 192 ∷ 0 ∷ 0 ∷ 8 ∷ [] }

-- ---- states, each by steps from the one before

abbrev pub queued : NetworkState
queued = after_steps (record { point = 3; what = Submits the_next } ∷ []) come

abbrev pub sent : NetworkState
sent = after_steps (done_at second_line.here Takes ∷ []) queued

abbrev pub passed : NetworkState
passed = after_steps (done_at second_line.there Delivers ∷ []) sent

abbrev pub both_come : NetworkState
both_come = after_steps (sends fourth_line) passed

-- ---- and what they show

-- all messages that came to a node
abbrev pub messages_come : NetworkNode → List Message
messages_come x = map (λ a. a.message) x.arrived

abbrev pub both_arrivals : List Arrival
both_arrivals = record { link = 1; message = the_message } ∷ record { link = 1; message = the_next } ∷ []

pub record BothComeInOrder : Type 0 where
  pub same_flow : flow_of the_next ≡ flow_of the_message
  -- both are what their flow has: point 3 accepted them, and they came to point 2, in this order
  pub flow_accepted : of_flow (flow_of the_message) (both_come.node 3).accepted ≡ the_message ∷ the_next ∷ []
  pub flow_comes : of_flow (flow_of the_message) (messages_come (both_come.node 2)) ≡ the_message ∷ the_next ∷ []
  -- they are all user messages that point 3 accepted, and that came to points 1 and 2
  pub accepted : (both_come.node 3).accepted ≡ the_message ∷ the_next ∷ []
  pub comes_through : users_come (both_come.node 1) ≡ both_arrivals
  pub comes : users_come (both_come.node 2) ≡ both_arrivals
  -- as the law of paths says, of which the premises hold
  pub hops : AreOpenHops row both_come (flow_of the_message) 3 (1 ∷ 2 ∷ [])
  pub passes_only : EachOnlyPasses (flow_of the_message) both_come 3 (1 ∷ 2 ∷ [])
  pub in_order : ComesInOrder (flow_of the_message) both_come 3 (1 ∷ 2 ∷ [])
