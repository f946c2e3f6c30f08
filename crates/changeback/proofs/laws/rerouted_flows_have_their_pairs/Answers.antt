use Rattle.changeback.proofs.ToAnother.{has_hold, other_pairs}
use Rattle.changeback.proofs.laws.rerouted_flows_have_their_pairs.Goals as goal

pub returns-clause-own : goal.returns-clause-own
returns-clause-own c = has_hold

pub returns-clause-others : goal.returns-clause-others
returns-clause-others c = other_pairs
