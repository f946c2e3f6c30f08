use Rattle.sctp_rules.proofs.Openings.{from-anywhere}
use Rattle.sctp_rules.proofs.laws.answers_may_come_from_anywhere.Goals as goal

pub returns : goal.returns
returns c = from-anywhere
