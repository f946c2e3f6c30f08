use Rattle.sccp_codec.proofs.MessageTexts.{one-value}
use Rattle.sccp_codec.proofs.laws.one_value.Goals as goal

pub returns : goal.returns
returns c = one-value
