use Rattle.node_law.proofs.Hops.{all-come, all-whole}
use Rattle.node_law.proofs.laws.messages_come_over_a_hop.Goals as goal

pub returns-clause-once : goal.returns-clause-once
returns-clause-once c = all-come

pub returns-clause-flags : goal.returns-clause-flags
returns-clause-flags c = all-whole
