-- What the walk holds is what fails with the link.
use Rattle.exchange.proofs.Basics.{ap, ◌∙◌, State, Parts, with_node, with_parts, KeptQueues, kept, with_holds, with_messages}
use Rattle.exchange.proofs.Suspending.{walked}
use Rattle.exchange.proofs.exchange.Exchange.suspend.Goals as goal

pub returns : goal.returns
returns c =
    c.hold_messages.ensures
    ∙ ap (λ (s : State KeptQueues). with_holds s (with_messages s.settings c.args.link (kept.unconfirmed s.node.queues c.args.link) s.node.parts.holds)) c.hold_destinations.ensures.holds
    ∙ ap (λ (p : Parts). with_node c.args.self.now (with_parts c.args.self.now.node p))
    (walked c.args.self.now.settings c.args.self.now.node.parts c.args.link (kept.unconfirmed c.args.self.now.node.queues c.args.link) c.hold_destinations.ensures.places)
