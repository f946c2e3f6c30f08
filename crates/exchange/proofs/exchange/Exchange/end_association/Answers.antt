-- The link serves as before.
use Rattle.exchange.proofs.Basics.{refl, false, link_in}
use Rattle.exchange.proofs.Rooms.{still_room}
use Rattle.exchange.proofs.exchange.Exchange.end_association.Goals as goal

pub invariant_of-self : goal.invariant_of-self
invariant_of-self c =
    still_room c.self.inside c.lose_association.new.self c.args.link (record (link_in c.self.inside.links.links c.args.link) { association = false })
    c.self.invariant c.lose_association.ensures refl
