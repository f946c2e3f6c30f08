use Rattle.exchange_rules.proofs.Received.{received-counted, takes-receive, nothing-delivered}
use Rattle.exchange_rules.proofs.laws.links.what_was_received_is_counted.Goals as goal

pub returns-clause-event : goal.returns-clause-event
returns-clause-event c = received-counted

pub returns-clause-take : goal.returns-clause-take
returns-clause-take c = takes-receive

pub returns-clause-none : goal.returns-clause-none
returns-clause-none c = nothing-delivered
