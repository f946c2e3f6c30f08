use Rattle.network_gates.proofs.Promised.{order}
use Rattle.network_gates.proofs.laws.each_flow_keeps_its_order.Goals as goal

pub returns : goal.returns
returns c = order
