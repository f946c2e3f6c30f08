use Rattle.timers.proofs.Basics.{arith}
use Rattle.timers.proofs.InMoments.{tree-none, left-none}
use Rattle.timers.proofs.moments.Moments.new.Goals as goal

pub invariant_of-result : goal.invariant_of-result
invariant_of-result c = record {
  tree = tree-none c.args.places c.levels_for-levels.result c.leaves_at-leaves.result c.in_ok-new_nodes.field-0.items c.levels_for-levels.ensures.room c.leaves_at-leaves.ensures.count c.in_ok-new_nodes.ensures;
  few = c.levels_for-levels.ensures.few;
}

pub returns : goal.returns
returns c = left-none c.args.places c.leaves_at-leaves.result c.in_ok-new_nodes.field-0.items (omega (arith, c.levels_for-levels.ensures.room, c.leaves_at-leaves.ensures.count)) c.in_ok-new_nodes.ensures
