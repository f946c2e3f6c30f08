use Rattle.m2pa_codec.proofs.StreamTexts.{calls-stream}
use Rattle.m2pa_codec.proofs.laws.calls_give_the_stream.Goals as goal

pub returns : goal.returns
returns c = calls-stream
