use Rattle.network_rules.proofs.CameAfter.{comes-after}
use Rattle.network_rules.proofs.laws.a_message_comes_after_a_restart.Goals as goal

pub returns : goal.returns
returns c = comes-after
