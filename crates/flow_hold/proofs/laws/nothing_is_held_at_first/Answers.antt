use Rattle.flow_hold.proofs.Pairing.{none_at_first}
use Rattle.flow_hold.proofs.laws.nothing_is_held_at_first.Goals as goal

pub returns : goal.returns
returns c = none_at_first
