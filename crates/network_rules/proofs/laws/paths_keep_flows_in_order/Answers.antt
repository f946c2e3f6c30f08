use Rattle.network_rules.proofs.Hops.{hop-open, paths-open}
use Rattle.network_rules.proofs.laws.paths_keep_flows_in_order.Goals as goal

pub returns-clause-hops : goal.returns-clause-hops
returns-clause-hops c = hop-open

pub returns-clause-paths : goal.returns-clause-paths
returns-clause-paths c = paths-open
