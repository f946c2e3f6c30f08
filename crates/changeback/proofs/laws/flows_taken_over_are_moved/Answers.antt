use Rattle.changeback.proofs.Moved.{each_moved}
use Rattle.changeback.proofs.laws.flows_taken_over_are_moved.Goals as goal

pub returns : goal.returns
returns c = each_moved
