use Rattle.pair_moves.proofs.Concluded.{each_flow_in_order-always}
use Rattle.pair_moves.proofs.laws.each_flow_keeps_its_order.Goals as goal

pub returns : goal.returns
returns c = each_flow_in_order-always
