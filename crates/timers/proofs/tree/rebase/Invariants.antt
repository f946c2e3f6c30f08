use Rattle.timers.proofs.Basics.{◌≡◌, ◌++◌, map, take, drop, rebased}
use Rattle.timers.proofs.tree.rebase.Given as goal

abbrev pub invariant-loop-moment : goal.invariant-loop-moment
invariant-loop-moment l = l.nodes ≡ map (rebased l.clock) (take l.moment-index l.fn.nodes) ++ drop l.moment-index l.fn.nodes
