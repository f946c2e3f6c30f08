use Rattle.node_law.proofs.MatedRuns.{mates-begin}
use Rattle.node_law.proofs.laws.a_message_comes_anew.Goals as goal

pub returns : goal.returns
returns c = mates-begin
