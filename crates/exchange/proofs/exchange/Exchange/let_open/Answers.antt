-- The link serves as before.
use Rattle.exchange.proofs.Basics.{true, refl, link_in}
use Rattle.exchange.proofs.Rooms.{still_room}
use Rattle.exchange.proofs.exchange.Exchange.let_open.Goals as goal

pub invariant_of-self : goal.invariant_of-self
invariant_of-self c =
    still_room c.self.inside c.allow.new.self c.args.link
    (record (link_in c.self.inside.links.links c.args.link) { active = true; emergency = c.args.emergency })
    c.self.invariant c.allow.ensures refl
