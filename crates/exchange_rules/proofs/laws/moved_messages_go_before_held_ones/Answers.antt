use Rattle.exchange_rules.proofs.Releasing.{moved_first}
use Rattle.exchange_rules.proofs.laws.moved_messages_go_before_held_ones.Goals as goal

pub returns : goal.returns
returns c = moved_first
