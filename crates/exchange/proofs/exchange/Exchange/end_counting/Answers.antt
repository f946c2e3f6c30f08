-- No flow is due any more.
use Rattle.exchange.proofs.Basics.{State, KeptQueues}
use Rattle.exchange.proofs.Rooms.{counted_flows_room}
use Rattle.exchange.proofs.exchange.Exchange.end_counting.Goals as goal

pub invariant_of-self : goal.invariant_of-self
invariant_of-self c =
    let s : State KeptQueues = c.args.self.now in
    counted_flows_room c.self.inside s c.self.invariant c.self.view_is c.requires
