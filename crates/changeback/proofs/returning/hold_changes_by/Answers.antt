-- One more destination is looked at.
use Rattle.changeback.proofs.Changes.{all_holds_begin, all_holds_go_on}
use Rattle.changeback.proofs.returning.hold_changes_by.Goals as goal

pub loop-destination-init : goal.loop-destination-init
loop-destination-init c = all_holds_begin c.args.holders.now c.args.holds.now c.args.links.now c.args.link

pub loop-destination-preserved : goal.loop-destination-preserved
loop-destination-preserved c =
    all_holds_go_on c.args.holders.now c.args.holds.now c.loop-destination.holds c.hold_changes_to.new.holds c.args.links.now c.args.link c.loop-destination.destination
    c.loop-destination.invariant c.hold_changes_to.ensures
