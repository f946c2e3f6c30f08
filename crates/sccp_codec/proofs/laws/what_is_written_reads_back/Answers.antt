use Rattle.std.proofs.Common.{refl}
use Rattle.sccp_codec.specs.Messages.{address_octets}
use Rattle.sccp_codec.proofs.MessageTexts.{spelled-is_unitdata, read_unitdata-spelled, spelled-address}
use Rattle.sccp_codec.proofs.laws.what_is_written_reads_back.Goals as goal

pub returns-clause-message : goal.returns-clause-message
returns-clause-message c = spelled-is_unitdata

pub returns-clause-back : goal.returns-clause-back
returns-clause-back c = read_unitdata-spelled

pub returns-clause-address : goal.returns-clause-address
returns-clause-address c = λ a h. spelled-address (address_octets 0 a) a h refl
