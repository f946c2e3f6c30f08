use Rattle.changeover.proofs.Completing.{once}
use Rattle.changeover.proofs.laws.each_user_message_once.Goals as goal

pub returns : goal.returns
returns c = once
