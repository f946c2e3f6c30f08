use Rattle.network_moves.proofs.Crossed.{mates-decide}
use Rattle.network_moves.proofs.laws.mates_decide_alone.Goals as goal

pub returns : goal.returns
returns c = mates-decide
