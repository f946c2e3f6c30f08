use Rattle.flow_hold.proofs.Holding.{adds_its_pair, hold-leaves_others, may_not-leaves}
use Rattle.flow_hold.proofs.laws.hold_adds_one_pair.Goals as goal

pub returns : goal.returns
returns c = record { own = adds_its_pair; others = hold-leaves_others; none = may_not-leaves }
