use Rattle.served_link.proofs.InOrder.{in_order}
use Rattle.served_link.proofs.laws.frames_go_out_in_order.Goals as goal

pub returns : goal.returns
returns c = in_order
