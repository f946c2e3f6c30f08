use Rattle.exchange_rules.proofs.SettingTimers.{barred-is, events-set, paced-is, takes-set, timers-keep}
use Rattle.exchange_rules.proofs.laws.timers_are_set_to_their_settings.Goals as goal

pub returns-clause-event : goal.returns-clause-event
returns-clause-event c = events-set

pub returns-clause-take : goal.returns-clause-take
returns-clause-take c = takes-set

pub returns-clause-always : goal.returns-clause-always
returns-clause-always c = timers-keep

pub returns-clause-paced : goal.returns-clause-paced
returns-clause-paced c = paced-is

pub returns-clause-barred : goal.returns-clause-barred
returns-clause-barred c = barred-is
