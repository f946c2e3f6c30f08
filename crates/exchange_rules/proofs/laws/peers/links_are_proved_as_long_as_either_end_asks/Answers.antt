use Rattle.exchange_rules.proofs.ProvingTimes.{as-asked}
use Rattle.exchange_rules.proofs.laws.peers.links_are_proved_as_long_as_either_end_asks.Goals as goal

pub returns : goal.returns
returns c = as-asked
