use Rattle.settings.proofs.Basics.{◌<◌, length, take, arith, subst, destination_checks, AreSeen}
use Rattle.settings.proofs.Seen.{seen_more, one_more}
use Rattle.settings.proofs.Telling.{told_entry}
use Rattle.settings.proofs.faults.destinations.tell_each.Goals as goal

pub loop-i-preserved : goal.loop-i-preserved
loop-i-preserved c =
    let l : c.loop-i.i < length c.args.destinations.now = omega (arith, c.loop-i-test.true) in
    record {
      seen = subst (λ earlier. AreSeen c.tell_destination.new.seen earlier) (one_more c.args.destinations.now c.loop-i.i c.index-destinations-i.result _ l c.index-destinations-i.is) (rw c.tell_destination.ensures.seen (seen_more c.loop-i.seen (take c.loop-i.i c.args.destinations.now) c.index-destinations-i.result c.loop-i.invariant.seen));
      told = told_entry (destination_checks c.args.own c.args.sets.now) c.args.destinations.now c.loop-i.i c.index-destinations-i.result _ _ _ _ l c.index-destinations-i.is c.in_ok-tell_destination.ensures.told c.loop-i.invariant.told;
    }
