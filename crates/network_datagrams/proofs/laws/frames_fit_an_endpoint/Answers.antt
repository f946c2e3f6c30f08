use Rattle.network_datagrams.proofs.Fitting.{all-short}
use Rattle.network_datagrams.proofs.laws.frames_fit_an_endpoint.Goals as goal

pub returns : goal.returns
returns c = all-short
