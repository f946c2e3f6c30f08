use Rattle.sctp_codec.proofs.ChunkTexts.{packet-back}
use Rattle.sctp_codec.proofs.laws.packets_read_back.Goals as goal

pub returns : goal.returns
returns c = packet-back
