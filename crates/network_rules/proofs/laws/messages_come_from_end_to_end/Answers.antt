use Rattle.network_rules.proofs.ToPoint.{ends-meet}
use Rattle.network_rules.proofs.laws.messages_come_from_end_to_end.Goals as goal

pub returns : goal.returns
returns c = ends-meet
