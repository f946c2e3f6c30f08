use Rattle.sctp_moves.proofs.Happening.{happens}
use Rattle.sctp_moves.proofs.laws.associations_open_and_fall.Goals as goal

pub returns : goal.returns
returns c = happens
