use Rattle.program.proofs.ConsoleTexts.{outcomes, others}
use Rattle.program.proofs.console_client.laws.answers_are_heard_as_they_are_meant.Goals as goal

pub returns-clause-outcomes : goal.returns-clause-outcomes
returns-clause-outcomes c = outcomes

pub returns-clause-others : goal.returns-clause-others
returns-clause-others c = others
