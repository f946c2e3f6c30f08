use Rattle.network_rules.proofs.Paths.{last-anew, last-hop, paths}
use Rattle.network_rules.proofs.laws.paths_keep_the_order_of_their_hops.Goals as goal

pub returns-clause-paths : goal.returns-clause-paths
returns-clause-paths c = paths

pub returns-clause-last : goal.returns-clause-last
returns-clause-last c = last-hop

pub returns-clause-anew : goal.returns-clause-anew
returns-clause-anew c = last-anew
