-- The octets that say what a packet says (RFC 9260 §3).
use Rattle.std.specs.Prelude.{◌≡◌, ◌≢◌, ℕ, ◌+◌, ◌*◌, ◌^◌, ◌<◌, ◌≤◌, Bool, true, if◌then◌else◌}
use Rattle.std.specs.Prelude.{List, [], ◌++◌, length, map}
use Rattle.std.specs.Prelude.{All}
use Rattle.std.specs.Int.{w16, w32, to_be_bytes, to_le_bytes}
use Rattle.std.specs.List.{flat_map}
use Rattle.crc32c.specs.Division.{crc32c_of}
use Rattle.sctp_codec.specs.Items.{ItemValue, IsItem, padded_item, padded_items, joined_items}
use Rattle.sctp_codec.specs.Packets.{DataValue, InitValue, BlockValue, SackValue, PacketValue, ChunkValue, kind_of}
use Rattle.sctp_codec.specs.Packets.{DataChunk}
use Rattle.sctp_codec.specs.Packets.{InitChunk, InitAckChunk, SackChunk, HeartbeatChunk, HeartbeatAckChunk, AbortChunk}
use Rattle.sctp_codec.specs.Packets.{ShutdownChunk, ShutdownAckChunk, ErrorChunk, CookieEchoChunk, CookieAckChunk}
use Rattle.sctp_codec.specs.Packets.{ShutdownCompleteChunk, UnknownChunk, MalformedChunk}
use Rattle.sctp_codec.specs.Reading.{is_bundled_well}

-- a bit of an octet, as what it adds to the octet
abbrev pub bit : Bool → ℕ → ℕ
bit set number = if set then 2 ^ number else 0

abbrev pub data_octets : DataValue → List ℕ
data_octets d =
    to_be_bytes w32 d.tsn ++ to_be_bytes w16 d.stream ++ to_be_bytes w16 d.sequence ++ to_be_bytes w32 d.protocol
    ++ d.octets

-- an INIT or an INIT ACK before its parameters
abbrev pub init_front : InitValue → List ℕ
init_front i =
    to_be_bytes w32 i.tag ++ to_be_bytes w32 i.window ++ to_be_bytes w16 i.outgoing ++ to_be_bytes w16 i.incoming
    ++ to_be_bytes w32 i.first_tsn

abbrev pub init_octets : InitValue → List ℕ
init_octets i = init_front i ++ joined_items i.parameters

abbrev pub block_octets : BlockValue → List ℕ
block_octets b = to_be_bytes w16 b.start ++ to_be_bytes w16 b.end

abbrev pub sack_octets : SackValue → List ℕ
sack_octets s =
    to_be_bytes w32 s.cumulative ++ to_be_bytes w32 s.window ++ to_be_bytes w16 (length s.blocks)
    ++ to_be_bytes w16 (length s.duplicates) ++ flat_map block_octets s.blocks
    ++ flat_map (to_be_bytes w32) s.duplicates

-- the flags of a chunk: those that say something, and 0 for the others
abbrev pub flags_in : ChunkValue → ℕ
flags_in (DataChunk d) = bit d.ends 0 + bit d.begins 1 + bit d.unordered 2 + bit d.immediate 3
flags_in (AbortChunk is_reflected causes) = bit is_reflected 0
flags_in (ShutdownCompleteChunk is_reflected) = bit is_reflected 0
flags_in (UnknownChunk kind flags value) = flags
flags_in chunk = 0

abbrev pub value_octets : ChunkValue → List ℕ
value_octets (DataChunk carried) = data_octets carried
value_octets (InitChunk init) = init_octets init
value_octets (InitAckChunk init) = init_octets init
value_octets (SackChunk sack) = sack_octets sack
value_octets (HeartbeatChunk information) = information
value_octets (HeartbeatAckChunk information) = information
value_octets (AbortChunk is_reflected causes) = causes
value_octets (ShutdownChunk cumulative) = to_be_bytes w32 cumulative
value_octets ShutdownAckChunk = []
value_octets (ErrorChunk causes) = joined_items causes
value_octets (CookieEchoChunk cookie) = cookie
value_octets CookieAckChunk = []
value_octets (ShutdownCompleteChunk is_reflected) = []
value_octets (UnknownChunk kind flags value) = value
value_octets (MalformedChunk kind) = []

abbrev pub chunk_item : ChunkValue → ItemValue
chunk_item chunk = record { kind = kind_of chunk * 2 ^ 8 + flags_in chunk; value = value_octets chunk }

-- the chunk, padded
abbrev pub chunk_octets : ChunkValue → List ℕ
chunk_octets chunk = padded_item (chunk_item chunk)

-- the common header with this checksum (RFC 9260 §3.1)
abbrev pub header_octets : (source destination tag checksum : ℕ) → List ℕ
header_octets source destination tag checksum =
    to_be_bytes w16 source ++ to_be_bytes w16 destination ++ to_be_bytes w32 tag ++ to_le_bytes w32 checksum

-- a header before these chunks, with the checksum of it all
abbrev pub headed : (source destination tag : ℕ) → List ℕ → List ℕ
headed source destination tag body =
    header_octets source destination tag (crc32c_of (header_octets source destination tag 0 ++ body)) ++ body

abbrev pub packet_octets : PacketValue → List ℕ
packet_octets p = headed p.source p.destination p.tag (padded_items (map chunk_item p.chunks))

-- ---- what can be said

pub record IsData (d : DataValue) : Type 0 where
  pub tsn : d.tsn < 2 ^ 32
  pub stream : d.stream < 2 ^ 16
  pub sequence : d.sequence < 2 ^ 16
  pub protocol : d.protocol < 2 ^ 32

pub record IsInit (i : InitValue) : Type 0 where
  pub tag : i.tag < 2 ^ 32
  pub window : i.window < 2 ^ 32
  pub outgoing : i.outgoing < 2 ^ 16
  pub incoming : i.incoming < 2 ^ 16
  pub first_tsn : i.first_tsn < 2 ^ 32
  pub parameters : All IsItem i.parameters

pub record IsBlock (b : BlockValue) : Type 0 where
  pub start : b.start < 2 ^ 16
  pub end : b.end < 2 ^ 16

pub record IsSack (s : SackValue) : Type 0 where
  pub cumulative : s.cumulative < 2 ^ 32
  pub window : s.window < 2 ^ 32
  pub blocks : All IsBlock s.blocks
  pub duplicates : All (λ tsn. tsn < 2 ^ 32) s.duplicates

-- a type that is none of those that are known
pub record IsUnknown (kind flags : ℕ) : Type 0 where
  pub fits : kind < 2 ^ 8
  pub flags_fit : flags < 2 ^ 8
  pub above : 12 ≤ kind
  pub other : kind ≢ 14

-- what the fields of a chunk can say
abbrev pub HasFields : ChunkValue → Type 0
HasFields (DataChunk carried) = IsData carried
HasFields (InitChunk init) = IsInit init
HasFields (InitAckChunk init) = IsInit init
HasFields (SackChunk sack) = IsSack sack
HasFields (ShutdownChunk cumulative) = cumulative < 2 ^ 32
HasFields (ErrorChunk causes) = All IsItem causes
HasFields (UnknownChunk kind flags value) = IsUnknown kind flags
HasFields (MalformedChunk kind) = ⊥
HasFields chunk = Unit {0}

-- what a chunk can say: its fields fit, and so does its length
pub record IsChunk (chunk : ChunkValue) : Type 0 where
  pub fields : HasFields chunk
  pub fits : 4 + length (value_octets chunk) < 2 ^ 16

-- what a packet can say
pub record IsPacket (p : PacketValue) : Type 0 where
  pub source : p.source < 2 ^ 16
  pub destination : p.destination < 2 ^ 16
  pub tag : p.tag < 2 ^ 32
  pub chunks : All IsChunk p.chunks
  pub some : p.chunks ≢ []
  pub bundled : is_bundled_well p.tag (map chunk_item p.chunks) ≡ true
