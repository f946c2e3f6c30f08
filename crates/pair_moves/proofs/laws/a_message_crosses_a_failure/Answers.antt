use Rattle.pair_moves.proofs.Crossed.{crosses}
use Rattle.pair_moves.proofs.laws.a_message_crosses_a_failure.Goals as goal

pub returns : goal.returns
returns c = crosses
