use Rattle.trace.proofs.Numbering.{behind_none}
use Rattle.trace.proofs.packet_numbers.PacketNumbers.new.Goals as goal

pub returns : goal.returns
returns c = behind_none
