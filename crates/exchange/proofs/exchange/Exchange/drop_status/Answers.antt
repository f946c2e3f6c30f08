-- The link serves as before.
use Rattle.exchange.proofs.Basics.{refl, drop, link_in}
use Rattle.exchange.proofs.Rooms.{still_room}
use Rattle.exchange.proofs.exchange.Exchange.drop_status.Goals as goal

pub invariant_of-self : goal.invariant_of-self
invariant_of-self c =
    still_room c.self.inside c.drop_status.new.self c.args.link (record (link_in c.self.inside.links.links c.args.link) { waiting = drop 1 (link_in c.self.inside.links.links c.args.link).waiting })
    c.self.invariant c.drop_status.ensures refl
