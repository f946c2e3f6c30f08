use Rattle.neighbour_rules.proofs.Special.{is-special}
use Rattle.neighbour_rules.proofs.laws.a_pair_alone_is_the_special_case.Goals as goal

pub returns : goal.returns
returns c = is-special
