use Rattle.pair_rules.proofs.OneEndFirst.{comes-once}
use Rattle.pair_rules.proofs.laws.a_message_crosses_while_one_end_opens.Goals as goal

pub returns : goal.returns
returns c = comes-once
