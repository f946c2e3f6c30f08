use Rattle.program.proofs.ConsoleTexts.{shown}
use Rattle.program.proofs.console_client.laws.what_is_shown_answers_nothing.Goals as goal

pub returns : goal.returns
returns c = shown
