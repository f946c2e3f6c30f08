use Rattle.node_law.proofs.MatedRuns.{mates-carry}
use Rattle.node_law.proofs.laws.a_message_comes_over_a_hop.Goals as goal

pub returns : goal.returns
returns c = mates-carry
