use Rattle.network_gates.proofs.Promised.{once}
use Rattle.network_gates.proofs.laws.each_message_comes_once.Goals as goal

pub returns : goal.returns
returns c = once
