use Rattle.network_gates.proofs.Lawful.{all-calls}
use Rattle.network_gates.proofs.laws.calls_of_gates_are_steps.Goals as goal

pub returns : goal.returns
returns c = all-calls
