use Rattle.sccp_codec.proofs.ManagementTexts.{is_management-read, read_management-is_management}
use Rattle.sccp_codec.proofs.laws.management_is_what_is_read.Goals as goal

pub returns : goal.returns
returns c = λ text v fits. (read_management-is_management text v, is_management-read text v fits)
