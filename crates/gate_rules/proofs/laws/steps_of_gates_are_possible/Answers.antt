use Rattle.gate_rules.proofs.Late.{late}
use Rattle.gate_rules.proofs.Possible.{possible}
use Rattle.gate_rules.proofs.laws.steps_of_gates_are_possible.Goals as goal

pub returns-clause-steps : goal.returns-clause-steps
returns-clause-steps c = possible

pub returns-clause-late : goal.returns-clause-late
returns-clause-late c = late
