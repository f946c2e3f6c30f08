-- Each packet that an endpoint puts out can be written, and so reads back, with any peer.
use Rattle.std.specs.Prelude.{◌≡◌, ℕ, ◌<◌, ◌≤◌, ◌^◌, All, List, length, Option, Some, None}
use Rattle.sctp_cookie.specs.declared.cookie.Cookie.{Cookie}
use Rattle.sctp_codec.specs.Packets.{ChunkValue, DataChunk, InitChunk, InitAckChunk, PacketValue}
use Rattle.sctp_codec.specs.Reading.{read_packet}
use Rattle.sctp_codec.specs.Writing.{IsPacket, packet_octets}
use Rattle.sctp_rules.specs.declared.limits.TheConstants.{SHORT_COOKIE_OCTETS}
use Rattle.sctp_rules.specs.Settings.{Settings, Beginning, Secrets}
use Rattle.sctp_rules.specs.State.{Datagram, first_state}
use Rattle.sctp_rules.specs.Endpoint.{Happening, Came, Sends, after_all}

-- ---- numbers that fit

-- a port has 16 bits
pub record HasPorts (c : Settings) : Type 0 where
  pub own : c.own_port < 2 ^ 16
  pub far : c.far_port < 2 ^ 16

-- tags and first TSNs have 32 bits
pub record IsBeginning (b : Beginning) : Type 0 where
  pub tag : b.tag < 2 ^ 32
  pub first : b.first < 2 ^ 32

pub record HasTags (c : Cookie) : Type 0 where
  pub own : c.own_tag < 2 ^ 32
  pub far : c.peer_tag < 2 ^ 32
  pub first : c.own_first_tsn < 2 ^ 32

-- of what may be there
abbrev pub If : {X : Type 0} → (X → Type 0) → Option X → Type 0
If P None = Unit {0}
If P (Some x) = P x

-- what is drawn fits, and so does what an accepted cookie says; a signed cookie isn't too long
pub record AreFit (k : Secrets) : Type 0 where
  pub beginnings : (n : ℕ) → If IsBeginning (k.beginning n)
  pub cookies : (octets : List ℕ) → If HasTags (k.cookie_in octets)
  pub signed : (c : Cookie) → length (k.signed c) ≤ SHORT_COOKIE_OCTETS

-- the numbers of a chunk that comes have as many bits as on the wire
abbrev pub HasNumbers : ChunkValue → Type 0
HasNumbers (DataChunk carried) = carried.tsn < 2 ^ 32
HasNumbers (InitChunk init) = init.tag < 2 ^ 32
HasNumbers (InitAckChunk init) = init.tag < 2 ^ 32
HasNumbers chunk = Unit {0}

pub record IsFit (p : PacketValue) : Type 0 where
  pub tag : p.tag < 2 ^ 32
  pub chunks : All HasNumbers p.chunks

-- a packet that comes, and the protocol of a message
abbrev pub Fits : Happening → Type 0
Fits (Came now source packet) = IsFit packet
Fits (Sends message) = message.protocol < 2 ^ 32
Fits what = Unit {0}

-- ---- the law

-- what can be said in a packet, and is read of it
abbrev pub IsWritten : Datagram → Type 0
IsWritten d = IsPacket d.packet

abbrev pub IsRead : Datagram → Type 0
IsRead d = read_packet (packet_octets d.packet) ≡ Some d.packet

abbrev pub AllThatGoesOut : (Datagram → Type 0) → Type 0
AllThatGoesOut P =
    (c : Settings) (k : Secrets) (happenings : List Happening) → HasPorts c → AreFit k → All Fits happenings →
    All P (after_all c k happenings (first_state c)).sent

abbrev pub packets_are_written : Type 0
packets_are_written = AllThatGoesOut IsWritten

abbrev pub packets_are_read : Type 0
packets_are_read = AllThatGoesOut IsRead
