use Rattle.settings_file.proofs.Basics.{◌≡◌, ◌++◌, drop}
use Rattle.settings_file.specs.Doubts.{each_key, doubtful_timer}
use Rattle.settings_file.proofs.doubts.timers.doubt_each.Given as goal

abbrev pub invariant-loop-i : goal.invariant-loop-i
invariant-loop-i l = l.doubts.items ++ each_key (doubtful_timer l.tick_ms l.ticks) l.i (drop l.i l.ranges) ≡ l.fn.doubts.items ++ each_key (doubtful_timer l.tick_ms l.ticks) 0 l.ranges
