use Rattle.sctp_world.proofs.Standing.{associated}
use Rattle.sctp_world.proofs.world.World.associations_have_the_laws.Goals as goal

pub returns : goal.returns
returns c = associated c.args.self.now
