use Rattle.sctp_moves.proofs.Concluded.{second-always}
use Rattle.sctp_moves.proofs.laws.second_end_enters_latest.Goals as goal

pub returns : goal.returns
returns c = second-always
