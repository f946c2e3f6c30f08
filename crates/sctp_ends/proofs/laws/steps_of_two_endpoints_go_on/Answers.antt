use Rattle.sctp_ends.proofs.World.{goes-on}
use Rattle.sctp_ends.proofs.laws.steps_of_two_endpoints_go_on.Goals as goal

pub returns : goal.returns
returns c = goes-on
