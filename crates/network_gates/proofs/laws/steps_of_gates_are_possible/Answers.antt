use Rattle.network_gates.proofs.Possible.{possible}
use Rattle.network_gates.proofs.laws.steps_of_gates_are_possible.Goals as goal

pub returns : goal.returns
returns c = possible
