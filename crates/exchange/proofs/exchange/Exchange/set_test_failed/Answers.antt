-- The link serves as before.
use Rattle.exchange.proofs.Basics.{refl, link_in}
use Rattle.exchange.proofs.Rooms.{still_room}
use Rattle.exchange.proofs.exchange.Exchange.set_test_failed.Goals as goal

pub invariant_of-self : goal.invariant_of-self
invariant_of-self c =
    still_room c.self.inside c.set_test_failed.new.self c.args.link (record (link_in c.self.inside.links.links c.args.link) { test_failed = c.args.failed })
    c.self.invariant c.set_test_failed.ensures refl
