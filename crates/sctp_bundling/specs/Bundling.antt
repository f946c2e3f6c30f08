-- Chunks that are bundled into packets, one after another (RFC 9260 §6.10).
use Rattle.std.specs.Prelude.{◌≡◌, ℕ, ◌+◌, Bool, false, true, ◌&&◌, List, [], ◌∷◌, ◌++◌, map, nat_lt, sum_by}
use Rattle.std.specs.Prelude.{if◌then◌else◌}
use Rattle.sctp_codec.specs.Packets.{ChunkValue, DataValue}
use Rattle.sctp_codec.specs.Writing.{header_octets}
use Rattle.sctp_sending.specs.Outgoing.{Message}
use Rattle.sctp_rules.specs.declared.limits.TheConstants.{PACKET_OCTETS, HEADER_OCTETS}
use Rattle.sctp_rules.specs.State.{Told}
use Rattle.sctp_rules.specs.Sending.{is_some}
use Rattle.sctp_bundling.specs.Replies.{size_of}
use Rattle.sctp_bundling.specs.ChunkRows.{row_of}
use Rattle.sctp_bundling.specs.Watching.{Sent, Puts}
use Rattle.sctp_bundling.specs.Ways.{Way, packet_on}

-- packets that are full, and the chunks of one that isn't
pub record Bundle : Type 0 where
  pub full : List (List ChunkValue)
  pub waiting : List ChunkValue

-- a chunk doesn't fit after those that wait
abbrev pub is_full_for : List ChunkValue → ChunkValue → Bool
is_full_for waiting chunk =
    is_some waiting && nat_lt PACKET_OCTETS (HEADER_OCTETS + sum_by size_of waiting + size_of chunk)

abbrev pub behind_packet : List ChunkValue → Bundle → Bundle
behind_packet packet b = record { full = packet ∷ b.full; waiting = b.waiting }

-- chunks after those that wait, as many as fit into a packet
unfoldable pub bundle : (waiting : List ChunkValue) → List ChunkValue → Bundle
bundle waiting [] = record { full = []; waiting = waiting }
bundle waiting (chunk ∷ chunks) =
    if is_full_for waiting chunk
    then behind_packet waiting (bundle (chunk ∷ []) chunks)
    else bundle (waiting ++ chunk ∷ []) chunks

-- what waits once this many octets more fit after it
abbrev pub room_for : List ChunkValue → (octets : ℕ) → Bundle
room_for waiting octets =
    if is_some waiting && nat_lt PACKET_OCTETS (HEADER_OCTETS + sum_by size_of waiting + octets)
    then record { full = waiting ∷ []; waiting = [] }
    else record { full = []; waiting = waiting }

-- a packet with these chunks, before its checksum
unfoldable pub draft_of : Way → List ChunkValue → List ℕ
draft_of w chunks = header_octets w.source w.destination w.tag 0 ++ row_of chunks

-- a packet that is written: where it goes, its octets so far, and how many they are
pub record Draft : Type 0 where
  pub way : Way
  pub text : List ℕ
  pub end : ℕ

-- packets that are full went out, and the others wait in the one that is written
pub record IsBundled {W : Type 0} (has : W → List Sent → List Told → Type 0) (w : Way) (before after : W)
    (text : List ℕ) (b : Bundle) : Type 0 where
  pub text_is : text ≡ draft_of w b.waiting
  pub full_out : Puts has before after (map (packet_on w) b.full)

-- there is room for this many octets more, whatever waits in the packet that is written
pub record HasMadeRoom {W : Type 0} (has : W → List Sent → List Told → Type 0) (w : Way) (before after : W)
    (old new : List ℕ) (octets : ℕ) : Type 0 where
  pub made : (waiting : List ChunkValue) → old ≡ draft_of w waiting
      → IsBundled has w before after new (room_for waiting octets)

-- chunks were bundled into the packet that is written, whatever waits in it
pub record Adds {W : Type 0} (has : W → List Sent → List Told → Type 0) (before after : W) (was is : Draft)
    (chunks : List ChunkValue) : Type 0 where
  pub way_is : is.way ≡ was.way
  pub bundled : (waiting : List ChunkValue) → was.text ≡ draft_of was.way waiting
      → IsBundled has was.way before after is.text (bundle waiting chunks)

-- a message goes out whole, in one chunk
abbrev pub carried_as : (tsn sequence : ℕ) → Message → DataValue
carried_as tsn sequence m = record {
  immediate = false;
  unordered = false;
  begins = true;
  ends = true;
  tsn = tsn;
  stream = m.stream;
  sequence = sequence;
  protocol = m.protocol;
  octets = m.octets;
}
