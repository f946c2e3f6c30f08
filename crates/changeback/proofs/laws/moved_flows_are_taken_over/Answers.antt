use Rattle.changeback.proofs.Moved.{each_found}
use Rattle.changeback.proofs.laws.moved_flows_are_taken_over.Goals as goal

pub returns : goal.returns
returns c = each_found
