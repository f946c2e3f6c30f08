use Rattle.gate_rules.proofs.Running.{is-special}
use Rattle.gate_rules.proofs.laws.nodes_alone_are_the_special_case.Goals as goal

pub returns : goal.returns
returns c = is-special
