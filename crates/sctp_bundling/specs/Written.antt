-- How chunks are kept in a buffer.
use Rattle.std.specs.Prelude.{◌≡◌, ◌≤◌, List, take, All}
use Rattle.sctp_codec.specs.Packets.{ChunkValue}
use Rattle.sctp_codec.specs.Writing.{IsChunk}
use Rattle.sctp_bundling.specs.declared.chunks.Chunks.TheInside.{Inside}
use Rattle.sctp_bundling.specs.ChunkRows.{row_of, chunks_read}

abbrev pub chunks_in : Inside → List ChunkValue
chunks_in b = chunks_read (take b.end b.octets)

pub record IsWritten (b : Inside) : Type 0 where
  pub fits : b.end ≤ 1188
  pub text : take b.end b.octets ≡ row_of (chunks_in b)
  pub chunks : All IsChunk (chunks_in b)
