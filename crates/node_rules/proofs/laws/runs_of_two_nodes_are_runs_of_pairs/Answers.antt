use Rattle.node_rules.proofs.Runs.{are-runs}
use Rattle.node_rules.proofs.laws.runs_of_two_nodes_are_runs_of_pairs.Goals as goal

pub returns : goal.returns
returns c = are-runs
