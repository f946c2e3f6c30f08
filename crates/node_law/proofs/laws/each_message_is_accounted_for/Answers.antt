use Rattle.node_law.proofs.Summing.{all-summed}
use Rattle.node_law.proofs.laws.each_message_is_accounted_for.Goals as goal

pub returns : goal.returns
returns c = all-summed
