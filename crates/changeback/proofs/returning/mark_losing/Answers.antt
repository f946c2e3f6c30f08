-- One more flow is looked at.
use Rattle.changeback.proofs.Changes.{marks_begin, marks_go_on}
use Rattle.changeback.proofs.returning.mark_losing.Goals as goal

pub loop-selection-init : goal.loop-selection-init
loop-selection-init c = marks_begin c.args.losing.now c.args.links.now c.args.link c.args.destination

pub loop-selection-preserved : goal.loop-selection-preserved
loop-selection-preserved c =
    marks_go_on c.args.losing.now c.loop-selection.losing c.mark.new.losing c.args.links.now c.args.link c.args.destination c.loop-selection.selection _
    c.former_link-from.ensures.from c.loop-selection.invariant c.mark.ensures
