use Rattle.exchange_rules.proofs.AnsweredOrders.{are-answered}
use Rattle.exchange_rules.proofs.laws.orders.orders_are_answered_by_any_route.Goals as goal

pub returns : goal.returns
returns c = are-answered
