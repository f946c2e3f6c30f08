-- The nodes of the settings so far.
use Rattle.std.proofs.Common.{◌≡◌, ◌++◌, length, map}
use Rattle.std.specs.Vec.Iter.{into_iter_items, into_iter_len}
use Rattle.network_rules.specs.Networks.{first_node}
use Rattle.network_world.specs.KeptNodes.{kept_node_of}
use Rattle.network_world.proofs.joining.boot_all.Given as goal

abbrev pub invariant-loop-own : goal.invariant-loop-own
invariant-loop-own l = (l.yielded ++ into_iter_items l.own-iterator ≡ into_iter_items l.initial.own-iterator)
    × (l.nodes.items ≡ map (λ c. kept_node_of (first_node c)) l.yielded)
    × (into_iter_len l.own-iterator ≡ length (into_iter_items l.own-iterator))
