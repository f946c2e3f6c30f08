use Rattle.settings_file.proofs.ToldAll.{told-next, told-done}
use Rattle.settings_file.proofs.faults.telling.tell_served.Goals as goal

pub loop-i-preserved : goal.loop-i-preserved
loop-i-preserved c = told-next c.args.found.now c.loop-i.i _ _ _ _ c.loop-i-test.true c.in_ok-tell.ensures c.loop-i.invariant

pub returns : goal.returns
returns c = told-done c.args.found.now c.loop-i.i _ _ c.loop-i-test.false c.loop-i.invariant
