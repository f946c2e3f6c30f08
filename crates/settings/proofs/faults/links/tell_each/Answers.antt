use Rattle.settings.proofs.Basics.{◌<◌, ◌≤◌, length, arith, link_checks}
use Rattle.settings.proofs.Telling.{told_entry, told_all}
use Rattle.settings.proofs.faults.links.tell_each.Goals as goal

pub loop-i-preserved : goal.loop-i-preserved
loop-i-preserved c =
    let l : c.loop-i.i < length c.args.links.now = omega (arith, c.loop-i-test.true) in
    told_entry (link_checks c.args.sets.now) c.args.links.now c.loop-i.i c.index-links-i.result _ _ _ _ l c.index-links-i.is c.in_ok-tell_link.ensures c.loop-i.invariant

pub returns : goal.returns
returns c =
    let l : length c.args.links.now ≤ c.loop-i.i = omega (arith, c.loop-i-test.false) in
    told_all (link_checks c.args.sets.now) c.args.links.now c.loop-i.i _ _ l c.loop-i.invariant
