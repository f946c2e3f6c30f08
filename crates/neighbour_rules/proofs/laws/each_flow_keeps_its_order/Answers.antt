use Rattle.neighbour_rules.proofs.Promised.{each-in-order}
use Rattle.neighbour_rules.proofs.laws.each_flow_keeps_its_order.Goals as goal

pub returns : goal.returns
returns c = each-in-order
