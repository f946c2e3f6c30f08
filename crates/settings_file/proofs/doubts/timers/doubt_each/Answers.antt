use Rattle.settings_file.specs.Doubts.{doubtful_timer}
use Rattle.settings_file.proofs.Doubting.{keys_next, keys_all}
use Rattle.settings_file.proofs.doubts.timers.doubt_each.Goals as goal

pub loop-i-preserved : goal.loop-i-preserved
loop-i-preserved c =
    keys_next (doubtful_timer c.args.tick_ms c.args.ticks) c.args.ranges.now c.loop-i.i _ _ _ _ c.loop-i-test.true
    c.in_ok-doubt_timer.ensures c.loop-i.invariant

pub returns : goal.returns
returns c = keys_all (doubtful_timer c.args.tick_ms c.args.ticks) c.args.ranges.now c.loop-i.i _ _ c.loop-i-test.false c.loop-i.invariant
