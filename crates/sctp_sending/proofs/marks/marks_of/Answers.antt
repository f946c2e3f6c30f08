use Rattle.std.proofs.Common.{◌||◌, Bool, ap, ◌∙◌}
use Rattle.sctp_codec.specs.declared.chunk.Blocks.{Blocks}
use Rattle.sctp_codec.specs.Values.{blocks_of}
use Rattle.sctp_sending.specs.Gaps.{names_in}
use Rattle.sctp_sending.proofs.Naming.{no_mark}
use Rattle.sctp_sending.proofs.marks.marks_of.Goals as goal

pub each_block-init : goal.each_block-init
each_block-init c = λ ahead.
    ap (λ (b : Bool). b || names_in (blocks_of c.into_iter-block-iterator.result) c.args.many ahead) (no_mark c.no_marks-marks.result ahead c.no_marks-marks.ensures)
    ∙ ap (λ (blocks : Blocks). names_in (blocks_of blocks) c.args.many ahead) c.into_iter-block-iterator.ensures.into_iter_gives
