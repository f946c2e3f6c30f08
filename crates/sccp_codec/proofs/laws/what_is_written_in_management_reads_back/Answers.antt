use Rattle.sccp_codec.proofs.ManagementTexts.{written-is_management, read_management-written}
use Rattle.sccp_codec.proofs.laws.what_is_written_in_management_reads_back.Goals as goal

pub returns-clause-message : goal.returns-clause-message
returns-clause-message c = written-is_management

pub returns-clause-back : goal.returns-clause-back
returns-clause-back c = read_management-written
