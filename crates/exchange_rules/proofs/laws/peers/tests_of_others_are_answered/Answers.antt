use Rattle.exchange_rules.proofs.FarPoints.{are-answered}
use Rattle.exchange_rules.proofs.LedRows.{tests-answered}
use Rattle.exchange_rules.proofs.laws.peers.tests_of_others_are_answered.Goals as goal

pub returns-clause-links : goal.returns-clause-links
returns-clause-links c = are-answered

pub returns-clause-subsystems : goal.returns-clause-subsystems
returns-clause-subsystems c = tests-answered
