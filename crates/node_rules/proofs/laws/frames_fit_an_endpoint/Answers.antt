use Rattle.node_rules.proofs.Fitting.{all-short}
use Rattle.node_rules.proofs.laws.frames_fit_an_endpoint.Goals as goal

pub returns : goal.returns
returns c = all-short
