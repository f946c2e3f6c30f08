use Rattle.neighbour_rules.proofs.FourLaws.{words-final}
use Rattle.neighbour_rules.proofs.laws.words_carry_the_final_number.Goals as goal

pub returns : goal.returns
returns c = words-final
