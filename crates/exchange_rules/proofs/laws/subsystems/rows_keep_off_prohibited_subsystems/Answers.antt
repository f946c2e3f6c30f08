use Rattle.exchange_rules.proofs.RowChoices.{choices, open-or-shut, titles-led-on, unreached-bar-nothing}
use Rattle.exchange_rules.proofs.laws.subsystems.rows_keep_off_prohibited_subsystems.Goals as goal

pub returns-clause-choice : goal.returns-clause-choice
returns-clause-choice c = choices

pub returns-clause-titles : goal.returns-clause-titles
returns-clause-titles c = titles-led-on

pub returns-clause-unreached : goal.returns-clause-unreached
returns-clause-unreached c = unreached-bar-nothing

pub returns-clause-points : goal.returns-clause-points
returns-clause-points c = open-or-shut
