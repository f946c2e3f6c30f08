-- What is left to go out, and what has gone out, is all that goes out.
use Rattle.exchange.proofs.Basics.{◌-◌, length, link_lane, lane_of, anew}
use Rattle.exchange.proofs.Draining.{Rest}
use Rattle.exchange.proofs.exchange.Exchange.send_all.Given as goal

abbrev pub invariant-loop : goal.invariant-loop
invariant-loop l = Rest anew l.fn.self l.self (l.end - l.counter) (lane_of l.link) (length (link_lane l.fn.self.node.queues l.link))
