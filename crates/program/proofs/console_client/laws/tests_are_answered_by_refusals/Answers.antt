use Rattle.program.proofs.ConsoleTexts.{tests}
use Rattle.program.proofs.console_client.laws.tests_are_answered_by_refusals.Goals as goal

pub returns : goal.returns
returns c = tests
