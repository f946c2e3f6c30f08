use Rattle.sctp_ends.proofs.World.{were-given}
use Rattle.sctp_ends.proofs.laws.told_messages_come_in_order.Goals as goal

pub returns : goal.returns
returns c = were-given
