use Rattle.gate_rules.proofs.Lawful.{all-calls, new-shows}
use Rattle.gate_rules.proofs.laws.calls_of_gates_are_steps.Goals as goal

pub returns-clause-calls : goal.returns-clause-calls
returns-clause-calls c = all-calls

pub returns-clause-new : goal.returns-clause-new
returns-clause-new c = new-shows
