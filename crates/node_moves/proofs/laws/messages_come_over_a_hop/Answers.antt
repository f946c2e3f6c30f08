use Rattle.node_moves.proofs.Hops.{comes-over, loses-nothing}
use Rattle.node_moves.proofs.laws.messages_come_over_a_hop.Goals as goal

pub returns-clause-once : goal.returns-clause-once
returns-clause-once c = comes-over

pub returns-clause-flags : goal.returns-clause-flags
returns-clause-flags c = loses-nothing
