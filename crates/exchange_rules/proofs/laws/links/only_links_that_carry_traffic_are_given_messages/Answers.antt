use Rattle.exchange_rules.proofs.Leaving.{queued_served}
use Rattle.exchange_rules.proofs.Giving.{routed-serve, declared-serve, test-declares, tested-serve, anew-serve, settled-serve}
use Rattle.exchange_rules.proofs.laws.links.only_links_that_carry_traffic_are_given_messages.Goals as goal

pub returns-clause-queued : goal.returns-clause-queued
returns-clause-queued c = queued_served

pub returns-clause-routed : goal.returns-clause-routed
returns-clause-routed c = routed-serve

pub returns-clause-declared : goal.returns-clause-declared
returns-clause-declared c = declared-serve

pub returns-clause-anew : goal.returns-clause-anew
returns-clause-anew c = anew-serve

pub returns-clause-settled : goal.returns-clause-settled
returns-clause-settled c = settled-serve

pub returns-clause-by_test : goal.returns-clause-by_test
returns-clause-by_test c = test-declares

pub returns-clause-tested : goal.returns-clause-tested
returns-clause-tested c = tested-serve
