-- With the nodes that are left, there is what all give.
use Rattle.std.proofs.Common.{◌≡◌, drop}
use Rattle.lab.specs.Network.{settings_in, node_faults, network_fault}
use Rattle.lab.proofs.network.network_fault.Given as goal

abbrev pub invariant-loop-place : goal.invariant-loop-place
invariant-loop-place l =
    node_faults (settings_in l.fn.nodes) l.place (drop l.place (settings_in l.fn.nodes)) ≡ network_fault (settings_in l.fn.nodes)
