use Rattle.sctp_codec.proofs.Checksums.{behind_front}
use Rattle.sctp_codec.proofs.header.remainder_behind.Goals as goal

pub returns : goal.returns
returns c = behind_front c.args.front c.remainder-ports_and_tag.result c.remainder.result c.to_le_bytes.result c.to_le_bytes.ensures c.remainder-ports_and_tag.ensures c.remainder.ensures
