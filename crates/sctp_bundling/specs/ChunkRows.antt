-- Chunks one after another, as octets.
use Rattle.std.specs.Prelude.{ℕ, List, map}
use Rattle.sctp_codec.specs.Items.{padded_items}
use Rattle.sctp_codec.specs.Packets.{ChunkValue, PacketValue}
use Rattle.sctp_codec.specs.Reading.{chunk_in}
use Rattle.sctp_codec.specs.Values.{items_in}
use Rattle.sctp_codec.specs.Writing.{chunk_item, packet_octets}

-- the octets of some chunks, each padded
unfoldable pub row_of : List ChunkValue → List ℕ
row_of chunks = padded_items (map chunk_item chunks)

-- the chunks that octets are
unfoldable pub chunks_read : List ℕ → List ChunkValue
chunks_read octets = map chunk_in (items_in octets)

-- the octets of a packet
unfoldable pub packet_text : PacketValue → List ℕ
packet_text p = packet_octets p
