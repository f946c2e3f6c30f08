-- Updates about the destination of the route may be pending.
use Rattle.exchange.proofs.Basics.{◌<◌, length, arith, ap, State, KeptQueues}
use Rattle.exchange.proofs.Rooms.{forced_room}
use Rattle.exchange.proofs.exchange.Exchange.force.Goals as goal

pub invariant_of-self : goal.invariant_of-self
invariant_of-self c =
    let there : c.args.destination < length c.self.inside.settings.destinations =
    omega (arith, c.requires, ap (λ (s : State KeptQueues). length s.settings.destinations) c.self.view_is) in
    forced_room c.self.inside c.set_status.new.self c.args.destination c.args.set c.args.status c.add.new.self c.mark.new.self c.self.invariant
    c.set_status.ensures there c.add.ensures c.mark.ensures
