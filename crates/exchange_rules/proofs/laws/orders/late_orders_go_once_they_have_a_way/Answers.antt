use Rattle.exchange_rules.proofs.LateEvents.{none-left}
use Rattle.exchange_rules.proofs.LateOrders.{late-go, others-stay}
use Rattle.exchange_rules.proofs.LateTurns.{all-go, in-turn, none-without-key}
use Rattle.exchange_rules.proofs.laws.orders.late_orders_go_once_they_have_a_way.Goals as goal

pub returns-clause-goes : goal.returns-clause-goes
returns-clause-goes c = late-go

pub returns-clause-stays : goal.returns-clause-stays
returns-clause-stays c = others-stay

pub returns-clause-turns : goal.returns-clause-turns
returns-clause-turns c = in-turn

pub returns-clause-all : goal.returns-clause-all
returns-clause-all c = all-go

pub returns-clause-key : goal.returns-clause-key
returns-clause-key c = none-without-key

pub returns-clause-left : goal.returns-clause-left
returns-clause-left c = none-left
