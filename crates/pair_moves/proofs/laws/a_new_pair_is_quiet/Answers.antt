use Rattle.pair_moves.proofs.First.{quiet-first}
use Rattle.pair_moves.proofs.laws.a_new_pair_is_quiet.Goals as goal

pub returns : goal.returns
returns c = quiet-first
