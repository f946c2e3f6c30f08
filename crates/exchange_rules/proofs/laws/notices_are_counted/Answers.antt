use Rattle.exchange_rules.proofs.Counting.{new-last, notices-counted, notices-limits}
use Rattle.exchange_rules.proofs.laws.notices_are_counted.Goals as goal

pub returns-clause-counted : goal.returns-clause-counted
returns-clause-counted c = notices-counted

pub returns-clause-newest : goal.returns-clause-newest
returns-clause-newest c = new-last

pub returns-clause-limits : goal.returns-clause-limits
returns-clause-limits c = notices-limits
