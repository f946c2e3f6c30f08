-- Those from here on are apart if all are.
use Rattle.std.proofs.Common.{◌≡◌, drop}
use Rattle.node_world.specs.Joined.{are_apart}
use Rattle.node_world.proofs.joining.are_apart.Given as goal

abbrev pub invariant-loop-place : goal.invariant-loop-place
invariant-loop-place l = are_apart (drop l.place l.nodes) ≡ are_apart l.nodes
