use Rattle.sctp_rules.proofs.Telling.{in-turn}
use Rattle.sctp_rules.proofs.laws.users_are_told_in_turn.Goals as goal

pub returns : goal.returns
returns c = in-turn
