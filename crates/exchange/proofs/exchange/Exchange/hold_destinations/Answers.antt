-- One more destination is looked at.
use Rattle.exchange.proofs.Basics.{ap, ◌∙◌, SELECTIONS, HoldSet, State, KeptQueues, facts, with_holds, with_selections}
use Rattle.exchange.proofs.Suspending.{no_destinations, more_destinations}
use Rattle.exchange.proofs.exchange.Exchange.hold_destinations.Goals as goal

pub loop-destination-init : goal.loop-destination-init
loop-destination-init c =
    ap (λ (t : HoldSet). with_holds c.args.self.now t)
    (no_destinations (facts c.args.self.now.settings c.args.self.now.node.parts) c.args.link c.args.self.now.node.parts.holds)

pub loop-destination-preserved : goal.loop-destination-preserved
loop-destination-preserved c =
    c.hold_destination.ensures
    ∙ ap (λ (s : State KeptQueues). with_holds s (with_selections (facts s.settings s.node.parts) c.args.link c.loop-destination.destination SELECTIONS s.node.parts.holds)) c.loop-destination.invariant
    ∙ ap (λ (t : HoldSet). with_holds c.args.self.now t)
    (more_destinations (facts c.args.self.now.settings c.args.self.now.node.parts) c.args.link c.loop-destination.destination c.args.self.now.node.parts.holds)
