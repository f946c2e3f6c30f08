use Rattle.sctp_moves.proofs.Concluded.{prefix-always, received-always, confirmed-always}
use Rattle.sctp_moves.proofs.laws.messages_come_in_order.Goals as goal

pub returns-clause-carried : goal.returns-clause-carried
returns-clause-carried c = prefix-always

pub returns-clause-sent : goal.returns-clause-sent
returns-clause-sent c = received-always

pub returns-clause-confirmed : goal.returns-clause-confirmed
returns-clause-confirmed c = confirmed-always
