use Rattle.node_moves.proofs.NetworkAnew.{nodes-anew, ends-anew, sums-anew, nodes-lose-none, none-lost, first-networks-quiet}
use Rattle.node_moves.proofs.laws.networks_begin_anew.Goals as goal

pub returns-clause-nodes : goal.returns-clause-nodes
returns-clause-nodes c = nodes-anew

pub returns-clause-ends : goal.returns-clause-ends
returns-clause-ends c = ends-anew

pub returns-clause-sums : goal.returns-clause-sums
returns-clause-sums c = sums-anew

pub returns-clause-flags : goal.returns-clause-flags
returns-clause-flags c = nodes-lose-none

pub returns-clause-flags_of_ends : goal.returns-clause-flags_of_ends
returns-clause-flags_of_ends c = none-lost

pub returns-clause-first : goal.returns-clause-first
returns-clause-first c = first-networks-quiet
