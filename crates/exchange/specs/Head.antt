-- What is read of a message in a list, and what is done with it.
use Rattle.std.specs.Prelude.{ℕ, Option, Some, None, if◌then◌else◌}
use Rattle.signalling_types.specs.Message.{Message, is_management}
use Rattle.settings.specs.Configuration.{Configuration}
use Rattle.settings.specs.Readings.{destination_place}
use Rattle.mtp3_codec.specs.Headings.{label_at}
use Rattle.flow_hold.specs.Holds.{HoldSet}
use Rattle.exchange.specs.declared.exchange.head.Head.{Head}
use Rattle.exchange_rules.specs.State.{State, with_node, with_parts}
use Rattle.exchange.specs.KeptQueues.{KeptQueues}
use Rattle.exchange.specs.Suspending.{with_flow_to, with_message}

abbrev pub head_of : Message → Head
head_of m = record { label = label_at m.sif; is_management = is_management m }

-- the same state with other holds
abbrev pub with_holds : State KeptQueues → HoldSet → State KeptQueues
with_holds s holds = with_node s (with_parts s.node (record s.node.parts { holds = holds }))

-- the flow of a message is held, by what is read of it
abbrev pub with_read : Configuration → ℕ → Head → HoldSet → HoldSet
with_read c link head holds =
    if head.is_management then holds
    else with_flow_to c link (destination_place c head.label.dpc) head.label.sls holds

-- the flow of a message is held, if there is one
abbrev pub with_head : Configuration → ℕ → Option Message → HoldSet → HoldSet
with_head c link (Some m) holds = with_message c link m holds
with_head c link None holds = holds
