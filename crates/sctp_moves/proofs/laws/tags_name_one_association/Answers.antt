use Rattle.sctp_moves.proofs.Concluded.{own-always, far-always}
use Rattle.sctp_moves.proofs.laws.tags_name_one_association.Goals as goal

pub returns-clause-own : goal.returns-clause-own
returns-clause-own c = own-always

pub returns-clause-far : goal.returns-clause-far
returns-clause-far c = far-always
