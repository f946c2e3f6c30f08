use Rattle.network_rules.proofs.Always.{runs}
use Rattle.network_rules.proofs.laws.each_set_is_a_pair_of_neighbours.Goals as goal

pub returns : goal.returns
returns c = runs
