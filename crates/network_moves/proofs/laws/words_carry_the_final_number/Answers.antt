use Rattle.network_moves.proofs.Concluded.{words_are_true-always}
use Rattle.network_moves.proofs.laws.words_carry_the_final_number.Goals as goal

pub returns : goal.returns
returns c = words_are_true-always
