use Rattle.node_rules.proofs.Promised.{in-order}
use Rattle.node_rules.proofs.laws.each_flow_keeps_its_order.Goals as goal

pub returns : goal.returns
returns c = in-order
