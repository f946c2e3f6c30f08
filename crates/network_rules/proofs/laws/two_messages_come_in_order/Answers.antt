use Rattle.network_rules.proofs.NextMessage.{both-in-order}
use Rattle.network_rules.proofs.laws.two_messages_come_in_order.Goals as goal

pub returns : goal.returns
returns c = both-in-order
