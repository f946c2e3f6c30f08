-- With the links that are left, there is what all give.
use Rattle.std.proofs.Common.{◌≡◌, drop}
use Rattle.lab.specs.Network.{settings_in, link_faults}
use Rattle.lab.proofs.network.link_faults.Given as goal

abbrev pub invariant-loop-number : goal.invariant-loop-number
invariant-loop-number l =
    link_faults (settings_in l.fn.nodes) l.fn.place l.fn.node l.number (drop l.number l.fn.links)
    ≡ link_faults (settings_in l.fn.nodes) l.fn.place l.fn.node 0 l.fn.links
