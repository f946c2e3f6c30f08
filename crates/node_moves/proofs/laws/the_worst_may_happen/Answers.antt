use Rattle.node_moves.proofs.Possible.{may-be-harmed, may-come, may-fail}
use Rattle.node_moves.proofs.laws.the_worst_may_happen.Goals as goal

pub returns-clause-statuses : goal.returns-clause-statuses
returns-clause-statuses c = may-be-harmed

pub returns-clause-links : goal.returns-clause-links
returns-clause-links c = may-fail

pub returns-clause-outside : goal.returns-clause-outside
returns-clause-outside c = may-come
