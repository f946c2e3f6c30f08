use Rattle.network_datagrams.proofs.Paths.{flows, hops, last-hops, nodes-pass, paths}
use Rattle.network_datagrams.proofs.laws.paths_keep_the_order_of_their_hops.Goals as goal

pub returns-clause-nodes : goal.returns-clause-nodes
returns-clause-nodes c = nodes-pass

pub returns-clause-paths : goal.returns-clause-paths
returns-clause-paths c = paths

pub returns-clause-last : goal.returns-clause-last
returns-clause-last c = last-hops

pub returns-clause-hops : goal.returns-clause-hops
returns-clause-hops c = hops

pub returns-clause-flows : goal.returns-clause-flows
returns-clause-flows c = flows
