use Rattle.exchange_rules.proofs.BecomingQuiet.{ticks-end}
use Rattle.exchange_rules.proofs.TickingAlone.{quiet-end}
use Rattle.exchange_rules.proofs.laws.ticks_end_all_holds.Goals as goal

pub returns-clause-quiet : goal.returns-clause-quiet
returns-clause-quiet c = quiet-end

pub returns-clause-always : goal.returns-clause-always
returns-clause-always c = ticks-end
