-- What the gates of a network put out is octets on their way, which are read as the packets that were put out.
use Rattle.std.specs.Prelude.{ℕ}
use Rattle.gate_rules.specs.Octets.{AreRead, HavePorts}
use Rattle.network_gates.specs.GatePromises.{Always}

-- at each node, if SCTP ports have 16 bits
abbrev pub packets_are_read : Type 0
packets_are_read =
    Always (λ make points w. ((point : ℕ) → HavePorts (make point)) → (point : ℕ) → AreRead (w.node point))
