use Rattle.changeback.proofs.ToAnother.{had_none, has_none}
use Rattle.changeback.proofs.laws.unlinked_flows_are_not_rerouted.Goals as goal

pub returns-clause-before : goal.returns-clause-before
returns-clause-before c = had_none

pub returns-clause-after : goal.returns-clause-after
returns-clause-after c = has_none
