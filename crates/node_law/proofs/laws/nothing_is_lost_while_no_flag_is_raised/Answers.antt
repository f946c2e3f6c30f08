use Rattle.node_law.proofs.Ending as nodes
use Rattle.node_law.proofs.Summing as sums
use Rattle.node_law.proofs.ToPoint as points
use Rattle.node_law.proofs.laws.nothing_is_lost_while_no_flag_is_raised.Goals as goal

pub returns-clause-nodes : goal.returns-clause-nodes
returns-clause-nodes c = nodes.all-whole

pub returns-clause-all : goal.returns-clause-all
returns-clause-all c = sums.all-whole

pub returns-clause-ends : goal.returns-clause-ends
returns-clause-ends c = points.all-whole
