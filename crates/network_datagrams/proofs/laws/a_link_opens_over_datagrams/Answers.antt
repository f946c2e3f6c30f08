use Rattle.network_datagrams.proofs.Happening.{happens}
use Rattle.network_datagrams.proofs.laws.a_link_opens_over_datagrams.Goals as goal

pub returns : goal.returns
returns c = happens
