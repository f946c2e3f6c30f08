use Rattle.settings_file.specs.declared.serve.fault.ServeFault.TheVariants.{Settings}
use Rattle.settings_file.proofs.ToldAll.{read-next, read-done}
use Rattle.settings_file.proofs.faults.telling.tell_read.Goals as goal

pub loop-i-preserved : goal.loop-i-preserved
loop-i-preserved c = read-next Settings c.args.found.now c.loop-i.i _ _ _ _ c.loop-i-test.true c.in_ok-tell.ensures c.loop-i.invariant

pub returns : goal.returns
returns c = read-done Settings c.args.found.now c.loop-i.i _ _ c.loop-i-test.false c.loop-i.invariant
