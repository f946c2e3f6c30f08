use Rattle.node_moves.proofs.EndToEnd.{come-end-to-end}
use Rattle.node_moves.proofs.laws.messages_come_from_end_to_end.Goals as goal

pub returns : goal.returns
returns c = come-end-to-end
