use Rattle.exchange_rules.proofs.LastingReroutings.{none-first, reached-count, kept-uncounted, takes-reroute, stay-counted}
use Rattle.exchange_rules.proofs.laws.reroutings.rerouted_flows_are_counted.Goals as goal

pub returns-clause-first : goal.returns-clause-first
returns-clause-first c = none-first

pub returns-clause-event : goal.returns-clause-event
returns-clause-event c = reached-count

pub returns-clause-only : goal.returns-clause-only
returns-clause-only c = kept-uncounted

pub returns-clause-take : goal.returns-clause-take
returns-clause-take c = takes-reroute

pub returns-clause-stays : goal.returns-clause-stays
returns-clause-stays c = stay-counted
