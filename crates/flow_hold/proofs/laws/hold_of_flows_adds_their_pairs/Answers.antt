use Rattle.flow_hold.proofs.Flows.{flows_add, flows_leave}
use Rattle.flow_hold.proofs.laws.hold_of_flows_adds_their_pairs.Goals as goal

pub returns : goal.returns
returns c = record { own = flows_add; others = flows_leave }
