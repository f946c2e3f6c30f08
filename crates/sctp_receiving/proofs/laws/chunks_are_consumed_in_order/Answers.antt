use Rattle.sctp_receiving.proofs.Courses.{in-order}
use Rattle.sctp_receiving.proofs.laws.chunks_are_consumed_in_order.Goals as goal

pub returns : goal.returns
returns c = in-order
