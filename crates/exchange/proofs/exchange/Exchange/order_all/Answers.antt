-- Where no changeover waits for its order, no order is late.
use Rattle.exchange.proofs.Basics.{ap, sym, ◌∙◌, list_any, State, Node, with_node, KeptQueues, kept}
use Rattle.changeover.specs.Changeover.{is_unasked}
use Rattle.exchange.proofs.LateOrders.{none-late}
use Rattle.exchange.proofs.exchange.Exchange.order_all.Goals as goal

pub returns-then-not-has_unasked : goal.returns-then-not-has_unasked
returns-then-not-has_unasked c =
    ap (λ (n : Node KeptQueues). with_node c.args.self.now n)
    (sym (none-late kept c.args.self.now.settings c.args.self.now.node
    (ap (λ (s : State KeptQueues). list_any is_unasked s.node.parts.changeovers) (sym c.self.view_is)
    ∙ sym c.has_unasked.ensures ∙ c.if-not-has_unasked.true)))
