-- One more link is looked at.
use Rattle.exchange.proofs.Basics.{ap, ◌∙◌, ℕ, State, Node, with_node, KeptQueues, kept}
use Rattle.exchange_rules.specs.ChangingOver.{order_if_late}
use Rattle.exchange.proofs.LateOrders.{none_ordered, more_ordered}
use Rattle.exchange.proofs.exchange.Exchange.order_each.Goals as goal

pub loop-link-init : goal.loop-link-init
loop-link-init c = ap (λ (n : Node KeptQueues). with_node c.args.self.now n) (none_ordered kept c.args.self.now.settings c.args.self.now.node)

pub loop-link-preserved : goal.loop-link-preserved
loop-link-preserved c =
    c.order_if_late.ensures
    ∙ ap (λ (link : ℕ). with_node c.loop-link.self (order_if_late kept c.loop-link.self.settings link c.loop-link.self.node)) c.new.ensures
    ∙ ap (λ (s : State KeptQueues). with_node s (order_if_late kept s.settings c.loop-link.link s.node)) c.loop-link.invariant
    ∙ ap (λ (n : Node KeptQueues). with_node c.args.self.now n) (more_ordered kept c.args.self.now.settings c.loop-link.link c.args.self.now.node)
