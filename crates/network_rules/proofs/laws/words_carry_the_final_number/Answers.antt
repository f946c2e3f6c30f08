use Rattle.network_rules.proofs.Links.{final}
use Rattle.network_rules.proofs.laws.words_carry_the_final_number.Goals as goal

pub returns : goal.returns
returns c = final
