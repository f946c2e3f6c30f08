use Rattle.sctp_moves.proofs.Openings.{course-always, spent-always, revived-always}
use Rattle.sctp_moves.proofs.laws.openings_come_in_turn.Goals as goal

pub returns-clause-turns : goal.returns-clause-turns
returns-clause-turns c = course-always

pub returns-clause-spent : goal.returns-clause-spent
returns-clause-spent c = spent-always

pub returns-clause-revived : goal.returns-clause-revived
returns-clause-revived c = revived-always
