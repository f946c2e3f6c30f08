use Rattle.network_moves.proofs.First.{quiet-first}
use Rattle.network_moves.proofs.laws.a_new_network_is_quiet.Goals as goal

pub returns : goal.returns
returns c = quiet-first
