-- As many flows are held as the loop has visited.
use Rattle.exchange.proofs.Basics.{◌≡◌, facts, with_holds, with_selections}
use Rattle.exchange.proofs.exchange.Exchange.hold_destination.Given as goal

abbrev pub invariant-loop-selection : goal.invariant-loop-selection
invariant-loop-selection l =
    l.self ≡ with_holds l.fn.self
    (with_selections (facts l.fn.self.settings l.fn.self.node.parts) l.link l.destination l.selection l.fn.self.node.parts.holds)
