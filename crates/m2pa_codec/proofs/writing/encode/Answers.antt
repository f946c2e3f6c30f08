use Rattle.std.proofs.Common.{arith}
use Rattle.m2pa_codec.specs.Values.{value_of}
use Rattle.m2pa_codec.proofs.FrameTexts.{spelled-is_frame, read_frame-spelled}
use Rattle.m2pa_codec.proofs.writing.encode.Goals as goal

pub returns-clause-frame : goal.returns-clause-frame
returns-clause-frame c =
    rw c.write.ensures.text (spelled-is_frame (value_of c.args.frame.now) (record { bsn_fits = c.write.ensures.bsn; fsn_fits = c.write.ensures.fsn; length_fits = rw (← c.write.ensures.count) (omega (arith, c.write.ensures.room)) }))

pub returns-clause-back : goal.returns-clause-back
returns-clause-back c =
    rw c.write.ensures.text (read_frame-spelled (value_of c.args.frame.now) (record { bsn_fits = c.write.ensures.bsn; fsn_fits = c.write.ensures.fsn; length_fits = rw (← c.write.ensures.count) (omega (arith, c.write.ensures.room)) }))
