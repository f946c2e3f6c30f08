use Rattle.sccp_codec.proofs.ExtendedTexts.{written-is_extended, read_extended-written}
use Rattle.sccp_codec.proofs.laws.what_is_written_extended_reads_back.Goals as goal

pub returns-clause-message : goal.returns-clause-message
returns-clause-message c = written-is_extended

pub returns-clause-back : goal.returns-clause-back
returns-clause-back c = read_extended-written
