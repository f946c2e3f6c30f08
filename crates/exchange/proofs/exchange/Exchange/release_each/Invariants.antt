-- What is left to go on, and what has gone on, is all that goes on.
use Rattle.exchange.proofs.Basics.{◌-◌, length, kept, held_lane, onward}
use Rattle.exchange.proofs.Draining.{Rest}
use Rattle.exchange.proofs.exchange.Exchange.release_each.Given as goal

abbrev pub invariant-loop : goal.invariant-loop
invariant-loop l = Rest onward l.fn.self l.self (l.end - l.counter) held_lane (length (kept.held l.fn.self.node.queues))
