-- Where packets go, and what their headers say.
use Rattle.std.specs.Prelude.{ℕ, List}
use Rattle.sctp_codec.specs.Packets.{ChunkValue, PacketValue}
use Rattle.sctp_rules.specs.Settings.{Address}
use Rattle.sctp_rules.specs.State.{Datagram}
use Rattle.sctp_bundling.specs.Settings.{address_of}
use Rattle.sctp_bundling.specs.declared.way.Way as declared

pub record Way : Type 0 where
  pub source : ℕ
  pub destination : ℕ
  pub tag : ℕ
  pub to : Address

abbrev pub way_of : declared.Way → Way
way_of w = record { source = w.source; destination = w.destination; tag = w.tag; to = address_of w.to }

abbrev pub packet_by : Way → List ChunkValue → PacketValue
packet_by w chunks = record { source = w.source; destination = w.destination; tag = w.tag; chunks = chunks }

abbrev pub packet_on : Way → List ChunkValue → Datagram
packet_on w chunks = record { packet = packet_by w chunks; to = w.to }
