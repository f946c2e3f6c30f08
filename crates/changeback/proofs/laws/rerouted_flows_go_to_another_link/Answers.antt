use Rattle.changeback.proofs.ToAnother.{goes_to_another, is_rerouted}
use Rattle.changeback.proofs.laws.rerouted_flows_go_to_another_link.Goals as goal

pub returns-clause-another : goal.returns-clause-another
returns-clause-another c = goes_to_another

pub returns-clause-found : goal.returns-clause-found
returns-clause-found c = is_rerouted
