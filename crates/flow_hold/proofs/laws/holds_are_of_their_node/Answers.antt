use Rattle.flow_hold.proofs.Pairing.{first_of_node, lifted_of_node}
use Rattle.flow_hold.proofs.Holding.{hold_of_node}
use Rattle.flow_hold.proofs.Flows.{flows_of_node}
use Rattle.flow_hold.proofs.laws.holds_are_of_their_node.Goals as goal

pub returns : goal.returns
returns c = record { first = first_of_node; hold = hold_of_node; flows = flows_of_node; lift = lifted_of_node }
