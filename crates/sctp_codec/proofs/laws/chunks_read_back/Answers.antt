use Rattle.sctp_codec.proofs.ChunkTexts.{chunk-back}
use Rattle.sctp_codec.proofs.laws.chunks_read_back.Goals as goal

pub returns : goal.returns
returns c = chunk-back
