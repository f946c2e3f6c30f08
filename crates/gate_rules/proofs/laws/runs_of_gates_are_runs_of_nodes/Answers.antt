use Rattle.gate_rules.proofs.Running.{are-runs}
use Rattle.gate_rules.proofs.laws.runs_of_gates_are_runs_of_nodes.Goals as goal

pub returns : goal.returns
returns c = are-runs
