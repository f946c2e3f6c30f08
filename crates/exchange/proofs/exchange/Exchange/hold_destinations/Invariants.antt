-- The flows to as many destinations are held as the loop has visited.
use Rattle.exchange.proofs.Basics.{◌≡◌, facts, with_holds, with_destinations}
use Rattle.exchange.proofs.exchange.Exchange.hold_destinations.Given as goal

abbrev pub invariant-loop-destination : goal.invariant-loop-destination
invariant-loop-destination l =
    l.self ≡ with_holds l.fn.self
    (with_destinations (facts l.fn.self.settings l.fn.self.node.parts) l.link l.destination l.fn.self.node.parts.holds)
