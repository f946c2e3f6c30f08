use Rattle.exchange_rules.proofs.LastingPeriods.{chosen-with, fixed-without}
use Rattle.exchange_rules.proofs.OpeningLaws.{orders-say, periods-are}
use Rattle.exchange_rules.proofs.laws.links.the_settings_say_whether_periods_are_chosen.Goals as goal

pub returns-clause-fixed : goal.returns-clause-fixed
returns-clause-fixed c = fixed-without

pub returns-clause-chosen : goal.returns-clause-chosen
returns-clause-chosen c = chosen-with

pub returns-clause-opened : goal.returns-clause-opened
returns-clause-opened c = periods-are

pub returns-clause-ordered : goal.returns-clause-ordered
returns-clause-ordered c = orders-say
