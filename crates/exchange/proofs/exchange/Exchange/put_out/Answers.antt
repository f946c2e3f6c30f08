-- The link serves as before.
use Rattle.exchange.proofs.Basics.{true, refl, link_in}
use Rattle.exchange.proofs.Rooms.{still_room}
use Rattle.exchange.proofs.exchange.Exchange.put_out.Goals as goal

pub invariant_of-self : goal.invariant_of-self
invariant_of-self c =
    still_room c.self.inside c.put_out.new.self c.args.link (record (link_in c.self.inside.links.links c.args.link) { peer_outage = true })
    c.self.invariant c.put_out.ensures refl
