use Rattle.timers.proofs.Basics.{◌≡◌, ◌<◌, drop, slice_set, never, IsBounded}
use Rattle.timers.proofs.tree.take_leaf.Given as goal

abbrev pub invariant-loop-node : goal.invariant-loop-node
invariant-loop-node l = record {
  within : l.node < l.leaves;
  bounded : IsBounded l.leaves l.nodes;
  kept : drop l.leaves l.nodes ≡ slice_set (drop l.leaves l.fn.nodes) l.place never;
}

abbrev pub decreases-loop-node : goal.decreases-loop-node
decreases-loop-node l = l.node
