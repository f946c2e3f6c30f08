use Rattle.exchange_rules.proofs.NamedAll.{events-account, management-named, takes-flag}
use Rattle.exchange_rules.proofs.laws.what_is_lost_is_named.Goals as goal

pub returns-clause-event : goal.returns-clause-event
returns-clause-event c = events-account

pub returns-clause-management : goal.returns-clause-management
returns-clause-management c = management-named

pub returns-clause-take : goal.returns-clause-take
returns-clause-take c = takes-flag
