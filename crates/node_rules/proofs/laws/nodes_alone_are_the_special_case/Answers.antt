use Rattle.node_rules.proofs.Alone.{is-special}
use Rattle.node_rules.proofs.laws.nodes_alone_are_the_special_case.Goals as goal

pub returns : goal.returns
returns c = is-special
