-- One more flow is looked at.
use Rattle.changeback.proofs.Changes.{holds_begin, holds_go_on}
use Rattle.changeback.proofs.returning.hold_changes_to.Goals as goal

pub loop-selection-init : goal.loop-selection-init
loop-selection-init c = holds_begin c.args.holders.now c.args.holds.now c.args.links.now c.args.link c.args.destination

pub loop-selection-preserved : goal.loop-selection-preserved
loop-selection-preserved c =
    holds_go_on c.args.holders.now c.args.holds.now c.loop-selection.holds c.hold_change.new.holds c.args.links.now c.args.link c.args.destination c.loop-selection.selection
    c.loop-selection.invariant c.hold_change.ensures
