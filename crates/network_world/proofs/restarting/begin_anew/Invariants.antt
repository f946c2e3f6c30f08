-- The books of those so far began anew.
use Rattle.std.proofs.Common.{◌≡◌, ◌++◌, drop, map, take}
use Rattle.network_world.specs.KeptAnew.{node_begins_anew}
use Rattle.network_world.proofs.restarting.begin_anew.Given as goal

abbrev pub invariant-loop-node : goal.invariant-loop-node
invariant-loop-node l = l.nodes ≡ map node_begins_anew (take l.node-index l.fn.nodes) ++ drop l.node-index l.fn.nodes
