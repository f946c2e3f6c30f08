use Rattle.node_moves.proofs.ByTheMate.{comes-by}
use Rattle.node_moves.proofs.laws.messages_come_by_the_mate.Goals as goal

pub returns : goal.returns
returns c = comes-by
