use Rattle.node_moves.proofs.Ending.{ends-once}
use Rattle.node_moves.proofs.laws.each_message_of_a_node_ends_once.Goals as goal

pub returns : goal.returns
returns c = ends-once
