use Rattle.flow_hold.proofs.Pairing.{held_by}
use Rattle.flow_hold.proofs.laws.flow_is_held_by_a_procedure.Goals as goal

pub returns : goal.returns
returns c = held_by
