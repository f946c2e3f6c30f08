use Rattle.gate_rules.proofs.Running.{each-once}
use Rattle.gate_rules.proofs.laws.each_message_comes_once.Goals as goal

pub returns : goal.returns
returns c = each-once
