use Rattle.sctp_sending.proofs.Expiring.{confirmed-anew, again-anew, stops-without, stays-otherwise}
use Rattle.sctp_sending.proofs.laws.t3_waits_for_the_earliest.Goals as goal

pub returns-clause-confirmed : goal.returns-clause-confirmed
returns-clause-confirmed c = confirmed-anew

pub returns-clause-again : goal.returns-clause-again
returns-clause-again c = again-anew

pub returns-clause-none : goal.returns-clause-none
returns-clause-none c = stops-without

pub returns-clause-other : goal.returns-clause-other
returns-clause-other c = stays-otherwise
