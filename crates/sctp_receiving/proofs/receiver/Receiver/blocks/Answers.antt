use Rattle.std.proofs.Common.{sym, ◌∙◌}
use Rattle.sctp_receiving.specs.Room.{receiver_in}
use Rattle.sctp_receiving.proofs.Blocks.{nothing_held}
use Rattle.sctp_receiving.proofs.receiver.Receiver.blocks.Goals as goal

pub returns-then-self-eq0 : goal.returns-then-self-eq0
returns-then-self-eq0 c =
    rw (← c.self.view_is) (c.new.ensures ∙ nothing_held (receiver_in c.self.inside) (sym c.self.invariant.count ∙ c.if-self-eq0.true))
