-- As many links are looked at as the loop has visited.
use Rattle.exchange.proofs.Basics.{◌≡◌, with_node, kept}
unfoldable use Rattle.exchange_rules.specs.ChangingOver.{order_each}
use Rattle.exchange.proofs.exchange.Exchange.order_each.Given as goal

abbrev pub invariant-loop-link : goal.invariant-loop-link
invariant-loop-link l = l.self ≡ with_node l.fn.self (order_each kept l.fn.self.settings l.link l.fn.self.node)
