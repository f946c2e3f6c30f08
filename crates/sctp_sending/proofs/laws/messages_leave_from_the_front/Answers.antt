use Rattle.sctp_sending.proofs.Leaving.{given-messages, gone-messages, t3-messages, cumulative-messages, sack-messages}
use Rattle.sctp_sending.proofs.laws.messages_leave_from_the_front.Goals as goal

pub returns-clause-given : goal.returns-clause-given
returns-clause-given c = given-messages

pub returns-clause-gone : goal.returns-clause-gone
returns-clause-gone c = gone-messages

pub returns-clause-t3 : goal.returns-clause-t3
returns-clause-t3 c = t3-messages

pub returns-clause-cumulative : goal.returns-clause-cumulative
returns-clause-cumulative c = cumulative-messages

pub returns-clause-sack : goal.returns-clause-sack
returns-clause-sack c = sack-messages
