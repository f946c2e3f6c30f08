-- One more flow is looked at.
use Rattle.exchange.proofs.Basics.{ap, ◌∙◌, HoldSet, State, KeptQueues, facts, with_holds, with_flow}
use Rattle.exchange.proofs.Suspending.{no_selections, more_selections}
use Rattle.exchange.proofs.exchange.Exchange.hold_destination.Goals as goal

pub loop-selection-init : goal.loop-selection-init
loop-selection-init c =
    ap (λ (t : HoldSet). with_holds c.args.self.now t)
    (no_selections (facts c.args.self.now.settings c.args.self.now.node.parts) c.args.link c.args.destination c.args.self.now.node.parts.holds)

pub loop-selection-preserved : goal.loop-selection-preserved
loop-selection-preserved c =
    c.hold_selection.ensures
    ∙ ap (λ (s : State KeptQueues). with_holds s (with_flow (facts s.settings s.node.parts) c.args.link c.args.destination c.loop-selection.selection s.node.parts.holds)) c.loop-selection.invariant
    ∙ ap (λ (t : HoldSet). with_holds c.args.self.now t)
    (more_selections (facts c.args.self.now.settings c.args.self.now.node.parts) c.args.link c.args.destination c.loop-selection.selection c.args.self.now.node.parts.holds)
