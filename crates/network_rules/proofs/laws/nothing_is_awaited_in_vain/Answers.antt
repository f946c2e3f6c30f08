use Rattle.network_rules.proofs.Promised.{awaited}
use Rattle.network_rules.proofs.laws.nothing_is_awaited_in_vain.Goals as goal

pub returns : goal.returns
returns c = awaited
