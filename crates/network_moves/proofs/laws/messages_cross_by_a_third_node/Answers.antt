use Rattle.network_moves.proofs.Crossed.{crosses}
use Rattle.network_moves.proofs.laws.messages_cross_by_a_third_node.Goals as goal

pub returns : goal.returns
returns c = crosses
