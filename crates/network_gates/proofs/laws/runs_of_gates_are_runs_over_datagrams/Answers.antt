use Rattle.network_gates.proofs.Promised.{are-runs, of-networks}
use Rattle.network_gates.proofs.laws.runs_of_gates_are_runs_over_datagrams.Goals as goal

pub returns-clause-datagrams : goal.returns-clause-datagrams
returns-clause-datagrams c = are-runs

pub returns-clause-frames : goal.returns-clause-frames
returns-clause-frames c = of-networks
