use Rattle.m2pa_codec.proofs.FrameTexts.{spelled-is_frame, read_frame-spelled}
use Rattle.m2pa_codec.proofs.laws.what_is_written_reads_back.Goals as goal

pub returns-clause-frame : goal.returns-clause-frame
returns-clause-frame c = spelled-is_frame

pub returns-clause-back : goal.returns-clause-back
returns-clause-back c = read_frame-spelled
