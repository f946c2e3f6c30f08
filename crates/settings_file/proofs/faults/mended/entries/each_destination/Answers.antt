use Rattle.settings_file.proofs.Basics.{map-append, destination_written}
use Rattle.settings_file.specs.Mended.{destination_mended}
use Rattle.settings_file.proofs.Mending.{mended_entry, mended_all}
use Rattle.settings_file.proofs.faults.mended.entries.each_destination.Goals as goal

pub loop-i-preserved : goal.loop-i-preserved
loop-i-preserved c =
    mended_entry destination_mended c.args.values.now c.loop-i.i c.index-values-i.result _ _ _ _ _ c.loop-i-test.true c.index-values-i.is
    (rw c.in_ok-push.ensures.items (map-append destination_written _ _)) c.in_ok-destination.ensures c.table_in.ensures c.loop-i.invariant

pub returns : goal.returns
returns c = mended_all destination_mended c.args.values.now c.loop-i.i _ _ c.loop-i-test.false c.loop-i.invariant
