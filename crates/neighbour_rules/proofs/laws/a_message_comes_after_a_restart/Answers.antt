use Rattle.neighbour_rules.proofs.AfterRestart.{comes-after}
use Rattle.neighbour_rules.proofs.laws.a_message_comes_after_a_restart.Goals as goal

pub returns : goal.returns
returns c = comes-after
