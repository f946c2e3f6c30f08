use Rattle.network_gates.proofs.Promised.{short}
use Rattle.network_gates.proofs.laws.frames_fit_an_endpoint.Goals as goal

pub returns : goal.returns
returns c = short
