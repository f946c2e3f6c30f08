-- Each destination keeps its count.
use Rattle.exchange.proofs.Basics.{ap, length, length-set, ◌∙◌}
use Rattle.exchange.proofs.Rooms.{counted_room}
use Rattle.exchange.proofs.exchange.Exchange.count_unequipped.Goals as goal

pub invariant_of-self : goal.invariant_of-self
invariant_of-self c =
    counted_room c.self.inside c.count.new.self c.self.invariant (ap length c.count.ensures ∙ length-set c.self.inside.unequipped c.args.origin _)
