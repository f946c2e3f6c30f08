use Rattle.network_datagrams.proofs.Promised.{flows}
use Rattle.network_datagrams.proofs.laws.flows_stay_between_the_two.Goals as goal

pub returns : goal.returns
returns c = flows
