use Rattle.node_moves.proofs.NetworkAnewRun.{network-begins}
use Rattle.node_moves.proofs.laws.a_network_begins_anew.Goals as goal

pub returns : goal.returns
returns c = network-begins
