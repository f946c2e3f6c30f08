-- What packets, chunks and items of the code say, without where their octets lie.
use Rattle.std.specs.Prelude.{◌≡◌, ℕ, List, [], map, Option, Some, None, unwrap_or}
use Rattle.sctp_codec.specs.declared.item.Item.{Item}
use Rattle.sctp_codec.specs.declared.items.Items.{Items}
use Rattle.sctp_codec.specs.declared.chunk.Data.{Data as DataOfChunk}
use Rattle.sctp_codec.specs.declared.chunk.Init.{Init as InitOfChunk}
use Rattle.sctp_codec.specs.declared.chunk.Offer.{Offer}
use Rattle.sctp_codec.specs.declared.chunk.Sack.{Sack as SackOfChunk}
use Rattle.sctp_codec.specs.declared.chunk.Block.{Block}
use Rattle.sctp_codec.specs.declared.chunk.Blocks.{Blocks}
use Rattle.sctp_codec.specs.declared.chunk.Numbers.{Numbers}
use Rattle.sctp_codec.specs.declared.chunk.Chunk.{Chunk}
use Rattle.sctp_codec.specs.declared.chunk.Chunk.TheVariants.{Data, Init, InitAck, Sack, Heartbeat, HeartbeatAck, Abort}
use Rattle.sctp_codec.specs.declared.chunk.Chunk.TheVariants.{Shutdown, ShutdownAck, Error, CookieEcho, CookieAck}
use Rattle.sctp_codec.specs.declared.chunk.Chunk.TheVariants.{ShutdownComplete, Unknown, Malformed}
use Rattle.sctp_codec.specs.declared.packet.Chunks.{Chunks}
use Rattle.sctp_codec.specs.declared.packet.Packet.{Packet}
use Rattle.sctp_codec.specs.Items.{ItemValue, read_items}
use Rattle.sctp_codec.specs.Packets.{DataValue, InitValue, BlockValue, SackValue, PacketValue, ChunkValue, DataChunk}
use Rattle.sctp_codec.specs.Packets.{InitChunk, InitAckChunk, SackChunk, HeartbeatChunk, HeartbeatAckChunk, AbortChunk}
use Rattle.sctp_codec.specs.Packets.{ShutdownChunk, ShutdownAckChunk, ErrorChunk, CookieEchoChunk, CookieAckChunk}
use Rattle.sctp_codec.specs.Packets.{ShutdownCompleteChunk, UnknownChunk, MalformedChunk}
use Rattle.sctp_codec.specs.Reading.{blocks_in, numbers_in, chunk_in}

abbrev pub item_of : Item → ItemValue
item_of item = record { kind = item.kind; value = item.value.now }

-- the items that are left
abbrev pub items_in : List ℕ → List ItemValue
items_in octets = unwrap_or (read_items octets) []

abbrev pub items_of : Items → List ItemValue
items_of items = items_in items.octets.now

abbrev pub data_of : DataOfChunk → DataValue
data_of d = record {
  immediate = d.immediate;
  unordered = d.unordered;
  begins = d.begins;
  ends = d.ends;
  tsn = d.tsn;
  stream = d.stream;
  sequence = d.sequence;
  protocol = d.protocol;
  octets = d.octets.now;
}

-- what is offered, with these parameters
abbrev pub offer_with : Offer → List ItemValue → InitValue
offer_with o parameters = record {
  tag = o.tag;
  window = o.window;
  outgoing = o.outgoing;
  incoming = o.incoming;
  first_tsn = o.first_tsn;
  parameters = parameters;
}

abbrev pub init_of : InitOfChunk → InitValue
init_of i = offer_with i.offer (items_of i.parameters)

abbrev pub block_of : Block → BlockValue
block_of b = record { start = b.start; end = b.end }

abbrev pub blocks_of : Blocks → List BlockValue
blocks_of blocks = blocks_in blocks.octets.now

abbrev pub numbers_of : Numbers → List ℕ
numbers_of numbers = numbers_in numbers.octets.now

abbrev pub sack_of : SackOfChunk → SackValue
sack_of s = record {
  cumulative = s.cumulative;
  window = s.window;
  blocks = blocks_of s.blocks;
  duplicates = numbers_of s.duplicates;
}

abbrev pub chunk_value : Chunk → ChunkValue
chunk_value (Data carried) = DataChunk (data_of carried)
chunk_value (Init init) = InitChunk (init_of init)
chunk_value (InitAck init) = InitAckChunk (init_of init)
chunk_value (Sack sack) = SackChunk (sack_of sack)
chunk_value (Heartbeat information) = HeartbeatChunk information.now
chunk_value (HeartbeatAck information) = HeartbeatAckChunk information.now
chunk_value (Abort is_reflected causes) = AbortChunk is_reflected causes.now
chunk_value (Shutdown cumulative) = ShutdownChunk cumulative
chunk_value ShutdownAck = ShutdownAckChunk
chunk_value (Error causes) = ErrorChunk (items_of causes)
chunk_value (CookieEcho cookie) = CookieEchoChunk cookie.now
chunk_value CookieAck = CookieAckChunk
chunk_value (ShutdownComplete is_reflected) = ShutdownCompleteChunk is_reflected
chunk_value (Unknown kind flags value) = UnknownChunk kind flags value.now
chunk_value (Malformed kind) = MalformedChunk kind

-- the chunks that are left
abbrev pub chunks_of : Chunks → List ChunkValue
chunks_of chunks = map chunk_in (items_of chunks.items)

abbrev pub packet_of : Packet → PacketValue
packet_of p = record {
  source = p.source;
  destination = p.destination;
  tag = p.tag;
  chunks = map chunk_in (items_of p.body.items);
}

-- what the code answers, seen as a value, is what reading gives
abbrev pub Gives : {X V : Type 0} → (X → V) → Option X → Option V → Type 0
Gives view (Some x) read = read ≡ Some (view x)
Gives view None read = read ≡ None
