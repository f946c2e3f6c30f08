use Rattle.node_moves.proofs.LossRun.{names-lost}
use Rattle.node_moves.proofs.laws.a_message_is_named_as_lost.Goals as goal

pub returns : goal.returns
returns c = names-lost
