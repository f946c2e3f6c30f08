use Rattle.node_moves.proofs.EachFate.{has-fate}
use Rattle.node_moves.proofs.laws.each_message_has_its_fate.Goals as goal

pub returns : goal.returns
returns c = has-fate
