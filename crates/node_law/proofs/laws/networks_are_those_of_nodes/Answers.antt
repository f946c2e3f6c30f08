use Rattle.node_law.proofs.Runs.{are-runs}
use Rattle.node_law.proofs.laws.networks_are_those_of_nodes.Goals as goal

pub returns : goal.returns
returns c = are-runs
