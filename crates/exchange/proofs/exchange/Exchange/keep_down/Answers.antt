-- The link serves as before.
use Rattle.exchange.proofs.Basics.{false, refl, link_in}
use Rattle.exchange.proofs.Rooms.{still_room}
use Rattle.exchange.proofs.exchange.Exchange.keep_down.Goals as goal

pub invariant_of-self : goal.invariant_of-self
invariant_of-self c =
    still_room c.self.inside c.forbid.new.self c.args.link
    (record (link_in c.self.inside.links.links c.args.link) { active = false; emergency = false })
    c.self.invariant c.forbid.ensures refl
