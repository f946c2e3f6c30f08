use Rattle.flow_hold.proofs.Pairing.{leaves_others, ends_its_own}
use Rattle.flow_hold.proofs.laws.lift_takes_its_own_pairs_alone.Goals as goal

pub returns : goal.returns
returns c = record { own = ends_its_own; others = leaves_others }
