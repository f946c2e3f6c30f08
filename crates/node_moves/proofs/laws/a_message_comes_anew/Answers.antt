use Rattle.node_moves.proofs.AnewRun.{begins-anew}
use Rattle.node_moves.proofs.laws.a_message_comes_anew.Goals as goal

pub returns : goal.returns
returns c = begins-anew
