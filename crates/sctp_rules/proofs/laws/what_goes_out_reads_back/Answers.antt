use Rattle.sctp_rules.proofs.Fitting.{all-written, all-read}
use Rattle.sctp_rules.proofs.laws.what_goes_out_reads_back.Goals as goal

pub returns-clause-written : goal.returns-clause-written
returns-clause-written c = all-written

pub returns-clause-read : goal.returns-clause-read
returns-clause-read c = all-read
