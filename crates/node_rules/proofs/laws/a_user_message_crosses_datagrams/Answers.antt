use Rattle.node_rules.proofs.Crossing.{crosses}
use Rattle.node_rules.proofs.laws.a_user_message_crosses_datagrams.Goals as goal

pub returns : goal.returns
returns c = crosses
