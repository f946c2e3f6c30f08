use Rattle.changeback.proofs.ToAnother.{rerouted_held, still_held}
use Rattle.changeback.proofs.laws.rerouted_flows_are_held.Goals as goal

pub returns-clause-held : goal.returns-clause-held
returns-clause-held c = rerouted_held

pub returns-clause-others : goal.returns-clause-others
returns-clause-others c = still_held
