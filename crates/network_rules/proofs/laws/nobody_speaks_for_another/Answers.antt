use Rattle.network_rules.proofs.Always.{silence}
use Rattle.network_rules.proofs.laws.nobody_speaks_for_another.Goals as goal

pub returns : goal.returns
returns c = silence
