use Rattle.exchange_rules.proofs.Answers.{queued-last}
use Rattle.exchange_rules.proofs.laws.queued_messages_stand_last.Goals as goal

pub returns : goal.returns
returns c = queued-last
