use Rattle.exchange_rules.proofs.EndingWaits.{answers-end, releases-end, releases-leave, t2-bars, t2-ends}
use Rattle.exchange_rules.proofs.laws.orders.answer_timer_and_operator_end_waits.Goals as goal

pub returns-clause-answer : goal.returns-clause-answer
returns-clause-answer c = answers-end

pub returns-clause-timer : goal.returns-clause-timer
returns-clause-timer c = t2-ends

pub returns-clause-bar : goal.returns-clause-bar
returns-clause-bar c = t2-bars

pub returns-clause-operator : goal.returns-clause-operator
returns-clause-operator c = releases-end

pub returns-clause-others : goal.returns-clause-others
returns-clause-others c = releases-leave
