use Rattle.sctp_moves.proofs.Concluded.{order-always}
use Rattle.sctp_moves.proofs.laws.both_ends_have_the_same_order.Goals as goal

pub returns : goal.returns
returns c = order-always
