use Rattle.std.proofs.Common.{rules}
use Rattle.sctp_codec.proofs.Finishing.{finished}
use Rattle.sctp_codec.proofs.writing.finish.Goals as goal

pub returns : goal.returns
returns c =
    λ source destination tag chunks text.
    finished c.args.out.now c.args.end source destination tag chunks c.copy_from_slice.new.self c.crc32c-checksum.result c.requires.front (search rules) c.crc32c-checksum.ensures (search rules) text
