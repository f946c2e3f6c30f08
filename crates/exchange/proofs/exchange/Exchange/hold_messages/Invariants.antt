-- What is held so far, with the flows of the remaining messages, is all that is to be held.
use Rattle.exchange.proofs.Basics.{◌≡◌, drop, link_lane, with_holds, with_messages}
use Rattle.exchange.proofs.exchange.Exchange.hold_messages.Given as goal

abbrev pub invariant-loop-place : goal.invariant-loop-place
invariant-loop-place l = record {
  same : l.self ≡ with_holds l.fn.self l.self.node.parts.holds;
  rest : with_messages l.fn.self.settings l.link (drop l.place (link_lane l.fn.self.node.queues l.link)) l.self.node.parts.holds
      ≡ with_messages l.fn.self.settings l.link (link_lane l.fn.self.node.queues l.link) l.fn.self.node.parts.holds;
}
