use Rattle.exchange_rules.proofs.OrderedLinks.{acknowledge, go-out, to-acknowledge}
use Rattle.exchange_rules.proofs.laws.peers.what_came_is_acknowledged.Goals as goal

pub returns-clause-owed : goal.returns-clause-owed
returns-clause-owed c = to-acknowledge

pub returns-clause-taken : goal.returns-clause-taken
returns-clause-taken c = go-out

pub returns-clause-number : goal.returns-clause-number
returns-clause-number c = acknowledge
