use Rattle.network_datagrams.proofs.Promised.{ends-meet}
use Rattle.network_datagrams.proofs.laws.messages_come_from_end_to_end.Goals as goal

pub returns : goal.returns
returns c = ends-meet
