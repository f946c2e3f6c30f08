use Rattle.m2pa_codec.proofs.StreamTexts.{one_stream}
use Rattle.m2pa_codec.proofs.laws.one_stream.Goals as goal

pub returns : goal.returns
returns c = one_stream
