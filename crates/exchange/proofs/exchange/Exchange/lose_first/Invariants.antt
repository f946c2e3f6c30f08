-- What is lost so far, and what is to be lost of the remaining messages, is all that is lost.
use Rattle.exchange.proofs.Basics.{◌≡◌, drop, take, with_node, with_parts, link_lane, lose_users}
use Rattle.exchange.proofs.exchange.Exchange.lose_first.Given as goal

abbrev pub invariant-loop-place : goal.invariant-loop-place
invariant-loop-place l = record {
  same : l.self ≡ with_node l.fn.self (with_parts l.fn.self.node l.self.node.parts);
  rest : lose_users (drop l.place (take l.count (link_lane l.fn.self.node.queues l.link))) l.self.node.parts
      ≡ lose_users (take l.count (link_lane l.fn.self.node.queues l.link)) l.fn.self.node.parts;
}
