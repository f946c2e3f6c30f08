use Rattle.sctp_moves.proofs.Concluded.{first-always}
use Rattle.sctp_moves.proofs.laws.first_end_finds_other_waiting.Goals as goal

pub returns : goal.returns
returns c = first-always
