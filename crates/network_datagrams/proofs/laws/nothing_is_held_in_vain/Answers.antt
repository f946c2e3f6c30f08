use Rattle.network_datagrams.proofs.Promised.{held}
use Rattle.network_datagrams.proofs.laws.nothing_is_held_in_vain.Goals as goal

pub returns : goal.returns
returns c = held
