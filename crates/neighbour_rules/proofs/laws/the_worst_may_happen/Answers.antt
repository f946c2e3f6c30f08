use Rattle.neighbour_rules.proofs.Possible.{may-be-harmed, may-fail, may-say}
use Rattle.neighbour_rules.proofs.laws.the_worst_may_happen.Goals as goal

pub returns-clause-statuses : goal.returns-clause-statuses
returns-clause-statuses c = may-be-harmed

pub returns-clause-links : goal.returns-clause-links
returns-clause-links c = may-fail

pub returns-clause-thirds : goal.returns-clause-thirds
returns-clause-thirds c = may-say
