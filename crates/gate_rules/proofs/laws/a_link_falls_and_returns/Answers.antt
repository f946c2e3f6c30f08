use Rattle.gate_rules.proofs.RunShown.{falls-and-returns}
use Rattle.gate_rules.proofs.laws.a_link_falls_and_returns.Goals as goal

pub returns : goal.returns
returns c = falls-and-returns
