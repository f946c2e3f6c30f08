-- The timers of the links so far are noted.
use Rattle.std.proofs.Common.{◌≡◌}
use Rattle.served_node.specs.NodeChanges.{with_timers}
use Rattle.served_node.proofs.node_watch.failures.note_each_timer.Given as goal

abbrev pub invariant-loop-k : goal.invariant-loop-k
invariant-loop-k l = l.states ≡ with_timers l.fn.exchange l.k l.fn.states
