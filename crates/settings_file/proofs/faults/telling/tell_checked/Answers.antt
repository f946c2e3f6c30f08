use Rattle.settings_file.specs.Following.{stands}
use Rattle.settings_file.proofs.ToldAll.{checked-next, checked-done}
use Rattle.settings_file.proofs.faults.telling.tell_checked.Goals as goal

pub loop-i-preserved : goal.loop-i-preserved
loop-i-preserved c =
    checked-next (stands c.args.hidden.names c.args.hidden.routes) c.args.found.now c.loop-i.i _ _ _ _ c.loop-i-test.true
    c.in_ok-tell_unless_hidden.ensures c.loop-i.invariant

pub returns : goal.returns
returns c = checked-done (stands c.args.hidden.names c.args.hidden.routes) c.args.found.now c.loop-i.i _ _ c.loop-i-test.false c.loop-i.invariant
