-- What gates put out is octets on their way, which are read as the packets that were put out.
use Rattle.std.specs.Prelude.{◌≡◌, ℕ, Some}
use Rattle.std.specs.List.{Contains}
use Rattle.sctp_codec.specs.Reading.{read_packet}
use Rattle.sctp_rules.specs.WrittenPackets.{HasPorts}
use Rattle.sctp_bundling.specs.ChunkRows.{packet_text}
use Rattle.sctp_ends.specs.Worlds.{Emitted}
use Rattle.gate_rules.specs.Worlds.{GateNode, Make, World}
use Rattle.gate_rules.specs.Promises.{Always}

-- SCTP ports have 16 bits
abbrev pub HavePorts : Make → Type 0
HavePorts m = (link : ℕ) → HasPorts (m.gates link).settings

-- the octets of each packet that a gate of the node put out are read as that packet
abbrev pub AreRead : {B : Type 0} → GateNode B → Type 0
AreRead n =
    (link : ℕ) (one : Emitted) → Contains (n.ports link).packets one →
    read_packet (packet_text one.packet) ≡ Some one.packet

pub record BothAreRead (w : World) : Type 0 where
  pub near : AreRead w.near
  pub far : AreRead w.far

abbrev pub packets_are_read : Type 0
packets_are_read = Always (λ near far w. HavePorts near → HavePorts far → BothAreRead w)
