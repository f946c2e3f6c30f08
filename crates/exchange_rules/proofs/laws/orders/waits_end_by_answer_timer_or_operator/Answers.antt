use Rattle.exchange_rules.proofs.BarredWaits.{waits-end}
use Rattle.exchange_rules.proofs.EndedWaits.{take-leaves}
use Rattle.exchange_rules.proofs.laws.orders.waits_end_by_answer_timer_or_operator.Goals as goal

pub returns-clause-event : goal.returns-clause-event
returns-clause-event c = waits-end

pub returns-clause-take : goal.returns-clause-take
returns-clause-take c = take-leaves
