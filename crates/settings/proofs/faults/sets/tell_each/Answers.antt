use Rattle.settings.proofs.Basics.{◌<◌, ◌≤◌, length, arith, set_checks}
use Rattle.settings.proofs.Telling.{told_entry, told_all}
use Rattle.settings.proofs.faults.sets.tell_each.Goals as goal

pub loop-i-preserved : goal.loop-i-preserved
loop-i-preserved c =
    let l : c.loop-i.i < length c.args.sets.now = omega (arith, c.loop-i-test.true) in
    told_entry (set_checks c.args.own) c.args.sets.now c.loop-i.i c.index-sets-i.result _ _ _ _ l c.index-sets-i.is c.in_ok-tell_set.ensures c.loop-i.invariant

pub returns : goal.returns
returns c =
    let l : length c.args.sets.now ≤ c.loop-i.i = omega (arith, c.loop-i-test.false) in
    told_all (set_checks c.args.own) c.args.sets.now c.loop-i.i _ _ l c.loop-i.invariant
