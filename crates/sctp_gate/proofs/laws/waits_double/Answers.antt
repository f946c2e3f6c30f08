use Rattle.sctp_gate.proofs.Doubling.{from-first, from-up}
use Rattle.sctp_gate.proofs.laws.waits_double.Goals as goal

pub returns-clause-first : goal.returns-clause-first
returns-clause-first c = from-first

pub returns-clause-again : goal.returns-clause-again
returns-clause-again c = from-up
