use Rattle.gate_rules.proofs.Running.{each-in-order}
use Rattle.gate_rules.proofs.laws.each_flow_keeps_its_order.Goals as goal

pub returns : goal.returns
returns c = each-in-order
