-- Reading a packet (RFC 9260 §3, §6.8, §6.10).
use Rattle.std.specs.Prelude.{ℕ, ◌+◌, ◌*◌, ◌/◌, ◌%◌, ◌^◌, Bool, true, false, ◌==◌, ◌||◌, ◌&&◌}
use Rattle.std.specs.Prelude.{if◌then◌else◌, nat_lt, List, []}
use Rattle.std.specs.Prelude.{◌∷◌, ◌++◌, length, take, drop, map, slice_index, Option, Some, None}
use Rattle.std.specs.Int.{w16, w32, from_be_bytes, from_le_bytes}
use Rattle.crc32c.specs.Division.{crc32c_of}
use Rattle.sctp_codec.specs.Items.{ItemValue, number16_at, number32_at, read_items}
use Rattle.sctp_codec.specs.Packets.{InitValue, BlockValue, PacketValue, ChunkValue, DataChunk}
use Rattle.sctp_codec.specs.Packets.{InitChunk, InitAckChunk, SackChunk, HeartbeatChunk, HeartbeatAckChunk, AbortChunk}
use Rattle.sctp_codec.specs.Packets.{ShutdownChunk, ShutdownAckChunk, ErrorChunk, CookieEchoChunk, CookieAckChunk}
use Rattle.sctp_codec.specs.Packets.{ShutdownCompleteChunk, UnknownChunk, MalformedChunk}

-- whether this bit of an octet is set, the lowest being bit 0
abbrev pub is_set : ℕ → ℕ → Bool
is_set octet bit = octet / 2 ^ bit % 2 == 1

-- ---- chunks

-- the 16-bit number that is a chunk's type, and its flags
abbrev pub type_of : ItemValue → ℕ
type_of item = item.kind / 2 ^ 8

abbrev pub flags_of : ItemValue → ℕ
flags_of item = item.kind % 2 ^ 8

-- DATA (RFC 9260 §3.3.1)
abbrev pub data_in : ℕ → List ℕ → ChunkValue
data_in flags value =
    if nat_lt (length value) 12 then MalformedChunk 0
    else DataChunk (record {
      immediate = is_set flags 3;
      unordered = is_set flags 2;
      begins = is_set flags 1;
      ends = is_set flags 0;
      tsn = number32_at value 0;
      stream = number16_at value 4;
      sequence = number16_at value 6;
      protocol = number32_at value 8;
      octets = drop 12 value;
    })

-- what an INIT or an INIT ACK says; nothing if it is too short, or its parameters aren't whole (RFC 9260 §3.3.2)
abbrev pub init_with : List ℕ → Option (List ItemValue) → Option InitValue
init_with value None = None
init_with value (Some parameters) = Some (record {
  tag = number32_at value 0;
  window = number32_at value 4;
  outgoing = number16_at value 8;
  incoming = number16_at value 10;
  first_tsn = number32_at value 12;
  parameters = parameters;
})

abbrev pub init_in : List ℕ → Option InitValue
init_in value = if nat_lt (length value) 16 then None else init_with value (read_items (drop 16 value))

-- the chunk of what a value says, if it says something
abbrev pub chunk_or_malformed : {V : Type 0} → ℕ → (V → ChunkValue) → Option V → ChunkValue
chunk_or_malformed kind chunk None = MalformedChunk kind
chunk_or_malformed kind chunk (Some value) = chunk value

-- gap blocks, four octets each, and 32-bit numbers; fewer than four octets are none
abbrev pub blocks_in : List ℕ → List BlockValue
blocks_in (a ∷ b ∷ c ∷ d ∷ rest) =
    record { start = from_be_bytes w16 (a ∷ b ∷ []); end = from_be_bytes w16 (c ∷ d ∷ []) } ∷ blocks_in rest
blocks_in octets = []

abbrev pub numbers_in : List ℕ → List ℕ
numbers_in (a ∷ b ∷ c ∷ d ∷ rest) = from_be_bytes w32 (a ∷ b ∷ c ∷ d ∷ []) ∷ numbers_in rest
numbers_in octets = []

-- how many blocks and duplicates a SACK says it has
abbrev pub block_count : List ℕ → ℕ
block_count value = number16_at value 8

abbrev pub duplicate_count : List ℕ → ℕ
duplicate_count value = number16_at value 10

-- SACK: after twelve octets the blocks, and after them the duplicates (RFC 9260 §3.3.4)
abbrev pub sack_in : List ℕ → ChunkValue
sack_in value =
    if nat_lt (length value) 12 then MalformedChunk 3
    else if nat_lt (length value) (12 + 4 * block_count value + 4 * duplicate_count value) then MalformedChunk 3
    else SackChunk (record {
      cumulative = number32_at value 0;
      window = number32_at value 4;
      blocks = blocks_in (take (4 * block_count value) (drop 12 value));
      duplicates = numbers_in (take (4 * duplicate_count value) (drop (12 + 4 * block_count value) value));
    })

-- SHUTDOWN (RFC 9260 §3.3.8)
abbrev pub shutdown_in : List ℕ → ChunkValue
shutdown_in value = if nat_lt (length value) 4 then MalformedChunk 7 else ShutdownChunk (number32_at value 0)

-- what a chunk of this type says, with these flags and this value (RFC 9260 §3.2)
unfoldable pub chunk_of : (kind flags : ℕ) → List ℕ → ChunkValue
chunk_of kind flags value =
    if kind == 0 then data_in flags value
    else if kind == 1 then chunk_or_malformed 1 InitChunk (init_in value)
    else if kind == 2 then chunk_or_malformed 2 InitAckChunk (init_in value)
    else if kind == 3 then sack_in value
    else if kind == 4 then HeartbeatChunk value
    else if kind == 5 then HeartbeatAckChunk value
    else if kind == 6 then AbortChunk (is_set flags 0) value
    else if kind == 7 then shutdown_in value
    else if kind == 8 then ShutdownAckChunk
    else if kind == 9 then chunk_or_malformed 9 ErrorChunk (read_items value)
    else if kind == 10 then CookieEchoChunk value
    else if kind == 11 then CookieAckChunk
    else if kind == 14 then ShutdownCompleteChunk (is_set flags 0)
    else UnknownChunk kind flags value

abbrev pub chunk_in : ItemValue → ChunkValue
chunk_in item = chunk_of (type_of item) (flags_of item) item.value

-- ---- packets

-- the checksum of a packet is that of its octets with zeros in the checksum's place (RFC 9260 §6.8)
abbrev pub checksum_of : List ℕ → ℕ
checksum_of octets = crc32c_of (take 8 octets ++ (0 ∷ 0 ∷ 0 ∷ 0 ∷ []) ++ drop 12 octets)

-- the checksum that a packet has: octets 8 to 11, the least significant first (RFC 9260 appendix A)
abbrev pub checksum_field : List ℕ → ℕ
checksum_field octets =
    from_le_bytes w32
    (slice_index octets 8 ∷ slice_index octets 9 ∷ slice_index octets 10 ∷ slice_index octets 11 ∷ [])

-- one of the chunks is of this type
abbrev pub has_type : ℕ → List ItemValue → Bool
has_type kind [] = false
has_type kind (item ∷ items) = type_of item == kind || has_type kind items

-- INIT and INIT ACK stand alone, and a packet with INIT has the tag 0 (RFC 9260 §6.10, §8.5.1)
abbrev pub is_bundled_well : ℕ → List ItemValue → Bool
is_bundled_well tag items =
    if has_type 1 items then length items == 1 && tag == 0
    else if has_type 2 items then length items == 1
    else true

abbrev pub tag_field : List ℕ → ℕ
tag_field octets = number32_at octets 4

-- the packet with these chunks
abbrev pub packet_with : List ℕ → Option (List ItemValue) → Option PacketValue
packet_with octets None = None
packet_with octets (Some items) =
    if is_bundled_well (tag_field octets) items
    then Some (record {
      source = number16_at octets 0;
      destination = number16_at octets 2;
      tag = tag_field octets;
      chunks = map chunk_in items;
    })
    else None

-- the packet that the octets are: twelve octets of header and at least one chunk, the right checksum, and whole chunks
-- to the end. What isn't one is dropped whole
abbrev pub read_packet : List ℕ → Option PacketValue
read_packet octets =
    if nat_lt (length octets) 16 then None
    else if checksum_field octets == checksum_of octets then packet_with octets (read_items (drop 12 octets))
    else None
