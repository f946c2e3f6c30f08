use Rattle.node_moves.proofs.HopRun.{mates-hop}
use Rattle.node_moves.proofs.laws.mates_are_a_hop.Goals as goal

pub returns : goal.returns
returns c = mates-hop
