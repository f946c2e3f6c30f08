use Rattle.node_law.proofs.Mated.{mated-linked}
use Rattle.node_law.proofs.laws.a_mated_pair_is_linked.Goals as goal

pub returns : goal.returns
returns c = mated-linked
