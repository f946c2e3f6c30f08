use Rattle.std.proofs.Common.{rules, take, ◌∙◌}
use Rattle.sctp_codec.proofs.Checksums.{same_sum}
use Rattle.sctp_codec.proofs.Finishing.{finished}
use Rattle.sctp_codec.proofs.writing.finish_behind.Goals as goal

pub returns : goal.returns
returns c =
    λ source destination tag chunks text.
    finished c.args.out.now c.args.end source destination tag chunks c.copy_from_slice.new.self c.checksum-checksum.result c.requires.front (search rules)
    (c.checksum-checksum.ensures ∙ same_sum (take c.args.end c.args.out.now) source destination tag chunks text) (search rules) text
