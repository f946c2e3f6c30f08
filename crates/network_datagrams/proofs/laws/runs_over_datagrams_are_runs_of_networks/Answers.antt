use Rattle.network_datagrams.proofs.Running.{are-runs}
use Rattle.network_datagrams.proofs.laws.runs_over_datagrams_are_runs_of_networks.Goals as goal

pub returns : goal.returns
returns c = are-runs
