use Rattle.node_moves.proofs.Lossless.{all-whole, flags-tell, nodes-whole}
use Rattle.node_moves.proofs.laws.nothing_is_lost_while_no_flag_is_raised.Goals as goal

pub returns-clause-flags : goal.returns-clause-flags
returns-clause-flags c = flags-tell

pub returns-clause-nodes : goal.returns-clause-nodes
returns-clause-nodes c = nodes-whole

pub returns-clause-ends : goal.returns-clause-ends
returns-clause-ends c = all-whole
