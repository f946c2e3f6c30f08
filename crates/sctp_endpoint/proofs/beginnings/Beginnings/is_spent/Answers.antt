use Rattle.std.proofs.Common.{arith}
use Rattle.sctp_endpoint.proofs.Refusing.{few-left}
use Rattle.sctp_endpoint.proofs.beginnings.Beginnings.is_spent.Goals as goal

pub returns-else-self-ge-SURELY_LEFT : goal.returns-else-self-ge-SURELY_LEFT
returns-else-self-ge-SURELY_LEFT c =
    rw (← c.self.view_is) (few-left c.self.inside.tags.key c.self.inside.count (omega (arith, c.if-self-ge-SURELY_LEFT.false)))
