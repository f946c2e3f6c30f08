use Rattle.sccp_codec.proofs.MessageTexts.{is_unitdata-read, read_unitdata-is_unitdata}
use Rattle.sccp_codec.proofs.laws.messages_are_what_is_read.Goals as goal

pub returns : goal.returns
returns c = λ text v fits. (read_unitdata-is_unitdata text v, is_unitdata-read text v fits)
