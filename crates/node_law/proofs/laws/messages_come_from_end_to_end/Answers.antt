use Rattle.node_law.proofs.ToPoint.{all-come}
use Rattle.node_law.proofs.laws.messages_come_from_end_to_end.Goals as goal

pub returns : goal.returns
returns c = all-come
