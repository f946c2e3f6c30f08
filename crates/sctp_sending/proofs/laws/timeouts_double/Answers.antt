use Rattle.sctp_sending.proofs.Expiring.{doubles, runs}
use Rattle.sctp_sending.proofs.laws.timeouts_double.Goals as goal

pub returns-clause-doubles : goal.returns-clause-doubles
returns-clause-doubles c = doubles

pub returns-clause-runs : goal.returns-clause-runs
returns-clause-runs c = runs
