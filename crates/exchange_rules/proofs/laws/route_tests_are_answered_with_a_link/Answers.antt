use Rattle.exchange_rules.proofs.TellingOnce.{tests-need}
use Rattle.exchange_rules.proofs.laws.route_tests_are_answered_with_a_link.Goals as goal

pub returns : goal.returns
returns c = tests-need
