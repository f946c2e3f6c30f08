-- What is to be told was told, so no more is owed than before.
use Rattle.exchange.proofs.Rooms.{answered_room}
use Rattle.exchange.proofs.exchange.Exchange.record_told.Goals as goal

pub invariant_of-self : goal.invariant_of-self
invariant_of-self c =
    answered_room c.self.inside c.args.self.now c.tell.new.self c.args.set c.args.destination c.args.status c.self.invariant c.self.view_is
    c.requires c.tell.ensures
