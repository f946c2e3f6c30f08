use Rattle.sctp_ends.proofs.World.{are-moves}
use Rattle.sctp_ends.proofs.laws.steps_of_an_endpoint_are_moves.Goals as goal

pub returns : goal.returns
returns c = are-moves
