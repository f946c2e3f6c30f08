-- Unless a release is due, each message of Held waits, and a release would change nothing.
use Rattle.exchange.proofs.Basics.{◌≡◌, true, ap, sym, subst, State, Node, with_node, KeptQueues, kept, all_wait}
use Rattle.exchange.proofs.Settling.{nothing_released_kept, or-true}
use Rattle.exchange.proofs.exchange.Exchange.release_if_due.Goals as goal

pub returns-else-self : goal.returns-else-self
returns-else-self c =
    let s : State KeptQueues = c.args.self.now in
    let wait : all_wait s.settings s.node.parts.holds (kept.held s.node.queues) ≡ true =
    subst (λ (x : State KeptQueues). all_wait x.settings x.node.parts.holds (kept.held x.node.queues) ≡ true) c.self.view_is
    (or-true c.self.inside.release_due _ c.if-self.false c.self.invariant.waiting) in
    ap (λ (n : Node KeptQueues). with_node s n) (sym (nothing_released_kept s.settings s.node wait))
