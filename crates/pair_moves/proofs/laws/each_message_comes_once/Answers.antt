use Rattle.pair_moves.proofs.Concluded.{each_message_once-always}
use Rattle.pair_moves.proofs.laws.each_message_comes_once.Goals as goal

pub returns : goal.returns
returns c = each_message_once-always
