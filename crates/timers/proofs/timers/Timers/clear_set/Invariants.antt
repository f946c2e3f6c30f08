use Rattle.timers.proofs.Basics.{◌≡◌}
use Rattle.timers.proofs.ClearedSet.{cleared_below}
use Rattle.timers.proofs.timers.Timers.clear_set.Given as goal

-- stopped for as many destinations as the loop has visited
abbrev pub invariant-loop-destination : goal.invariant-loop-destination
invariant-loop-destination l = l.self ≡ cleared_below l.timer l.set l.destination l.fn.self
