use Rattle.flow_hold.proofs.Flows.{some_passes}
use Rattle.flow_hold.proofs.laws.some_flow_passes_a_test.Goals as goal

pub returns : goal.returns
returns c = some_passes
