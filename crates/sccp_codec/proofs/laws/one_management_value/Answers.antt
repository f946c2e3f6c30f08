use Rattle.sccp_codec.proofs.ManagementTexts.{one-management}
use Rattle.sccp_codec.proofs.laws.one_management_value.Goals as goal

pub returns : goal.returns
returns c = one-management
