use Rattle.std.proofs.Common.{arith}
use Rattle.sctp_receiving.proofs.Holding.{few}
use Rattle.sctp_receiving.proofs.receiver.Receiver.hold.Goals as goal

pub overflow_add-self : goal.overflow_add-self
overflow_add-self c = omega (arith, few c.self.inside.held.items, c.self.invariant.count, c.self.invariant.places)
