use Rattle.exchange_rules.proofs.LastingReroutings.{uncounted-keep, go-by, last-sets-kept}
use Rattle.exchange_rules.proofs.laws.reroutings.flows_keep_their_set_while_none_is_counted.Goals as goal

pub returns-clause-event : goal.returns-clause-event
returns-clause-event c = uncounted-keep

pub returns-clause-last : goal.returns-clause-last
returns-clause-last c = go-by

pub returns-clause-always : goal.returns-clause-always
returns-clause-always c = last-sets-kept
