use Rattle.exchange_rules.proofs.Releasing.{order_kept}
use Rattle.exchange_rules.proofs.laws.release_keeps_the_order_of_each_flow.Goals as goal

pub returns : goal.returns
returns c = order_kept
