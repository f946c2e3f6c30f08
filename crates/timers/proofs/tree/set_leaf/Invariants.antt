use Rattle.timers.proofs.Basics.{◌≡◌, ◌<◌, drop, slice_set, IsBoundedBut}
use Rattle.timers.proofs.tree.set_leaf.Given as goal

abbrev pub invariant-loop-node : goal.invariant-loop-node
invariant-loop-node l = record {
  within : l.node < l.leaves;
  bounded : IsBoundedBut l.leaves l.node l.moment l.nodes;
  kept : drop l.leaves l.nodes ≡ slice_set (drop l.leaves l.fn.nodes) l.place l.moment;
}

abbrev pub decreases-loop-node : goal.decreases-loop-node
decreases-loop-node l = l.node
