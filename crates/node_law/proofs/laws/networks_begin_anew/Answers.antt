use Rattle.node_law.proofs.AnewNetworks.{all-come, all-once, all-summed, all-whole, each-whole, nodes-whole}
use Rattle.node_law.proofs.laws.networks_begin_anew.Goals as goal

pub returns-clause-nodes : goal.returns-clause-nodes
returns-clause-nodes c = all-once

pub returns-clause-all : goal.returns-clause-all
returns-clause-all c = all-summed

pub returns-clause-ends : goal.returns-clause-ends
returns-clause-ends c = all-come

pub returns-clause-flags : goal.returns-clause-flags
returns-clause-flags c = nodes-whole

pub returns-clause-flags_of_all : goal.returns-clause-flags_of_all
returns-clause-flags_of_all c = all-whole

pub returns-clause-flags_of_ends : goal.returns-clause-flags_of_ends
returns-clause-flags_of_ends c = each-whole
