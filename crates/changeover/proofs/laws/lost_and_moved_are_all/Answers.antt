use Rattle.changeover.proofs.Completing.{lost_moved}
use Rattle.changeover.proofs.laws.lost_and_moved_are_all.Goals as goal

pub returns : goal.returns
returns c = lost_moved
