use Rattle.network_gates.proofs.Promised.{awaited}
use Rattle.network_gates.proofs.laws.nothing_is_awaited_in_vain.Goals as goal

pub returns : goal.returns
returns c = awaited
