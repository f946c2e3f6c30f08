use Rattle.node_rules.proofs.Happening.{happens}
use Rattle.node_rules.proofs.laws.a_link_opens_over_datagrams.Goals as goal

pub returns : goal.returns
returns c = happens
