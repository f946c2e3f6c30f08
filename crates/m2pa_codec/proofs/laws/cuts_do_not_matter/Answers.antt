use Rattle.m2pa_codec.proofs.StreamTexts.{cuts-same}
use Rattle.m2pa_codec.proofs.laws.cuts_do_not_matter.Goals as goal

pub returns : goal.returns
returns c = cuts-same
