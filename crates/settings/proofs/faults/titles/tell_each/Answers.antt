use Rattle.settings.proofs.Basics.{◌<◌, length, arith, subst, title_checks, AreOf}
use Rattle.settings.proofs.Seen.{one_more}
use Rattle.settings.proofs.Telling.{told_entry}
use Rattle.settings.proofs.faults.titles.tell_each.Goals as goal

pub loop-i-preserved : goal.loop-i-preserved
loop-i-preserved c =
    let l : c.loop-i.i < length c.args.titles.now = omega (arith, c.loop-i-test.true) in
    record {
      seen = subst (λ earlier. AreOf c.tell_title.new.seen.keys earlier) (one_more c.args.titles.now c.loop-i.i c.index-titles-i.result _ l c.index-titles-i.is) (c.in_ok-tell_title.ensures.seen);
      told = told_entry title_checks c.args.titles.now c.loop-i.i c.index-titles-i.result _ _ _ _ l c.index-titles-i.is c.in_ok-tell_title.ensures.told c.loop-i.invariant.told;
    }
