use Rattle.sctp_rules.proofs.ReceivedMessages.{all-received}
use Rattle.sctp_rules.proofs.laws.what_is_told_was_received.Goals as goal

pub returns : goal.returns
returns c = all-received
