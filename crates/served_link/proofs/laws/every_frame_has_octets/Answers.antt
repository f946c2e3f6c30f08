use Rattle.served_link.proofs.InOrder.{pending-spelled}
use Rattle.served_link.proofs.laws.every_frame_has_octets.Goals as goal

pub returns : goal.returns
returns c = pending-spelled
