use Rattle.network_gates.proofs.Promised.{keep-flows, keep-hops, keep-order, last-hops, nodes-pass}
use Rattle.network_gates.proofs.laws.paths_keep_the_order_of_their_hops.Goals as goal

pub returns-clause-nodes : goal.returns-clause-nodes
returns-clause-nodes c = nodes-pass

pub returns-clause-paths : goal.returns-clause-paths
returns-clause-paths c = keep-order

pub returns-clause-last : goal.returns-clause-last
returns-clause-last c = last-hops

pub returns-clause-hops : goal.returns-clause-hops
returns-clause-hops c = keep-hops

pub returns-clause-flows : goal.returns-clause-flows
returns-clause-flows c = keep-flows
