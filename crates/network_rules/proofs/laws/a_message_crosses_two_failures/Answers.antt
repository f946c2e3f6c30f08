use Rattle.network_rules.proofs.Crossed.{crosses}
use Rattle.network_rules.proofs.laws.a_message_crosses_two_failures.Goals as goal

pub returns : goal.returns
returns c = crosses
