use Rattle.network_moves.proofs.Concluded.{each_message_enters_once-always, each_message_ends_once-always}
use Rattle.network_moves.proofs.laws.each_message_ends_once.Goals as goal

pub returns-clause-entered : goal.returns-clause-entered
returns-clause-entered c = each_message_enters_once-always

pub returns-clause-ended : goal.returns-clause-ended
returns-clause-ended c = each_message_ends_once-always
