use Rattle.settings_file.specs.AllFaults.{entry_checks_of}
use Rattle.settings_file.proofs.Noting.{noted_entry, noted_all}
use Rattle.settings_file.proofs.faults.arrays.note_each.Goals as goal

pub loop-i-preserved : goal.loop-i-preserved
loop-i-preserved c = noted_entry (entry_checks_of c.args.array) c.args.values.now c.loop-i.i c.index-values-i.result _ _ _ c.loop-i-test.true c.index-values-i.is c.in_ok-note_entry.ensures c.loop-i.invariant

pub returns : goal.returns
returns c = noted_all (entry_checks_of c.args.array) c.args.values.now c.loop-i.i _ _ c.loop-i-test.false c.loop-i.invariant
