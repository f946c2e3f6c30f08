use Rattle.node_law.proofs.Ending.{all-once}
use Rattle.node_law.proofs.laws.each_message_ends_once.Goals as goal

pub returns : goal.returns
returns c = all-once
