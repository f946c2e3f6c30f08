use Rattle.neighbour_rules.proofs.ThirdNode.{goes-on}
use Rattle.neighbour_rules.proofs.laws.a_message_comes_from_a_third_node.Goals as goal

pub returns : goal.returns
returns c = goes-on
