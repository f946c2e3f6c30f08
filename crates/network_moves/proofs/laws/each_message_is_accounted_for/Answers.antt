use Rattle.network_moves.proofs.Concluded.{accounted-always}
use Rattle.network_moves.proofs.laws.each_message_is_accounted_for.Goals as goal

pub returns : goal.returns
returns c = accounted-always
