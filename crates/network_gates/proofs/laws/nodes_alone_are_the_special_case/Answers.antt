use Rattle.network_gates.proofs.Alone.{alone}
use Rattle.network_gates.proofs.laws.nodes_alone_are_the_special_case.Goals as goal

pub returns : goal.returns
returns c = alone
