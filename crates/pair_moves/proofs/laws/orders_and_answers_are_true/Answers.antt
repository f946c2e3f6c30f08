use Rattle.pair_moves.proofs.Concluded.{words_are_true-always}
use Rattle.pair_moves.proofs.laws.orders_and_answers_are_true.Goals as goal

pub returns : goal.returns
returns c = words_are_true-always
