use Rattle.exchange_rules.proofs.AnsweredOrders.{await-down}
use Rattle.exchange_rules.proofs.laws.orders.one_answer_is_awaited_at_a_time.Goals as goal

pub returns : goal.returns
returns c = await-down
