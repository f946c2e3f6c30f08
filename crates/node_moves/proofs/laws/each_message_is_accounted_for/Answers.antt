use Rattle.node_moves.proofs.EndToEnd.{all-accounted}
use Rattle.node_moves.proofs.laws.each_message_is_accounted_for.Goals as goal

pub returns : goal.returns
returns c = all-accounted
