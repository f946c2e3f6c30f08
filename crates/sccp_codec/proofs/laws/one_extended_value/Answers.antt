use Rattle.sccp_codec.proofs.ExtendedTexts.{one-extended}
use Rattle.sccp_codec.proofs.laws.one_extended_value.Goals as goal

pub returns : goal.returns
returns c = one-extended
