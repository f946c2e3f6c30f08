use Rattle.sccp_codec.proofs.ExtendedTexts.{is_extended-read, read_extended-is_extended}
use Rattle.sccp_codec.proofs.laws.extended_messages_are_what_is_read.Goals as goal

pub returns : goal.returns
returns c = λ text v fits. (read_extended-is_extended text v, is_extended-read text v fits)
