use Rattle.exchange_rules.proofs.UntestedLinks.{waits, keeps-off, no-user-message, forgets, none-waits, step-alone}
use Rattle.exchange_rules.proofs.laws.link_tests.links_carry_traffic_after_their_first_test.Goals as goal

pub returns-clause-waits : goal.returns-clause-waits
returns-clause-waits c = waits

pub returns-clause-routed : goal.returns-clause-routed
returns-clause-routed c = keeps-off

pub returns-clause-queued : goal.returns-clause-queued
returns-clause-queued c = no-user-message

pub returns-clause-forgets : goal.returns-clause-forgets
returns-clause-forgets c = forgets

pub returns-clause-off : goal.returns-clause-off
returns-clause-off c = none-waits

pub returns-clause-alone : goal.returns-clause-alone
returns-clause-alone c = step-alone
