use Rattle.sctp_ends.proofs.World.{have-the-laws}
use Rattle.sctp_ends.proofs.laws.associations_of_two_endpoints_have_the_laws.Goals as goal

pub returns : goal.returns
returns c = have-the-laws
