use Rattle.exchange_rules.proofs.InhibitedRuns.{t8-lasts}
use Rattle.exchange_rules.proofs.InhibitedTicks.{t8-runs, takes-leave}
use Rattle.exchange_rules.proofs.TellingOnce.{told-once-within}
use Rattle.exchange_rules.proofs.laws.no_message_is_answered_while_t8_runs.Goals as goal

pub returns-clause-answered : goal.returns-clause-answered
returns-clause-answered c = told-once-within

pub returns-clause-event : goal.returns-clause-event
returns-clause-event c = t8-runs

pub returns-clause-take : goal.returns-clause-take
returns-clause-take c = takes-leave

pub returns-clause-always : goal.returns-clause-always
returns-clause-always c = t8-lasts
