-- The link serves as before.
use Rattle.exchange.proofs.Basics.{refl, link_in}
use Rattle.exchange.proofs.Rooms.{still_room}
use Rattle.node_links.specs.NodeLinks.{recovered}
use Rattle.exchange.proofs.exchange.Exchange.recover.Goals as goal

pub invariant_of-self : goal.invariant_of-self
invariant_of-self c =
    still_room c.self.inside c.recover.new.self c.args.link (recovered (link_in c.self.inside.links.links c.args.link))
    c.self.invariant c.recover.ensures refl
