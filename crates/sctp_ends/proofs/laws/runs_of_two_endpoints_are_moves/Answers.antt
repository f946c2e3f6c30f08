use Rattle.sctp_ends.proofs.World.{all-shown}
use Rattle.sctp_ends.proofs.laws.runs_of_two_endpoints_are_moves.Goals as goal

pub returns : goal.returns
returns c = all-shown
