use Rattle.exchange_rules.proofs.TestedTicks.{unsure-tested, tests-repeated}
use Rattle.exchange_rules.proofs.laws.unsure_routes_are_tested_again_and_again.Goals as goal

pub returns-clause-always : goal.returns-clause-always
returns-clause-always c = unsure-tested

pub returns-clause-again : goal.returns-clause-again
returns-clause-again c = tests-repeated
