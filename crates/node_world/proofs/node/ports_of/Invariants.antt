-- The gates so far, and then those still to be made.
use Rattle.std.proofs.Common.{◌≡◌, ◌<◌, ℕ, drop, ◌++◌}
use Rattle.std.specs.Prelude.{slice_get}
use Rattle.sctp_rules.specs.WrittenPackets.{HasPorts}
use Rattle.node_world.specs.Making.{gate_make_of, first_ports, AreInOrder}
use Rattle.node_world.proofs.node.ports_of.Given as goal

abbrev pub invariant-loop-link : goal.invariant-loop-link
invariant-loop-link l = record {
  first : l.ports.items ++ first_ports l.link (drop l.link l.gates) ≡ first_ports 0 l.gates;
  ports : (k : ℕ) → k < l.link → HasPorts (gate_make_of (slice_get l.gates k)).settings;
  order : (k : ℕ) → k < l.link → AreInOrder (gate_make_of (slice_get l.gates k)).settings.bounds;
}
