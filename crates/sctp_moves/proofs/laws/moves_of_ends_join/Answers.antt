use Rattle.sctp_moves.proofs.Joining.{near-moves, far-moves, moves-join}
use Rattle.sctp_moves.proofs.laws.moves_of_ends_join.Goals as goal

pub returns-clause-near : goal.returns-clause-near
returns-clause-near c = near-moves

pub returns-clause-far : goal.returns-clause-far
returns-clause-far c = far-moves

pub returns-clause-behind : goal.returns-clause-behind
returns-clause-behind c = moves-join
