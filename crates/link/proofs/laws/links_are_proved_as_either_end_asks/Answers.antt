-- By the lemmas over the table.
use Rattle.link.proofs.laws.links_are_proved_as_either_end_asks.Goals as goal
use Rattle.link.proofs.Periods.{aligned_again, peer_asks, period_stays, proved_alike, tells_own}

pub returns-clause-alike : goal.returns-clause-alike
returns-clause-alike c = proved_alike

pub returns-clause-asks : goal.returns-clause-asks
returns-clause-asks c = peer_asks

pub returns-clause-stays : goal.returns-clause-stays
returns-clause-stays c = period_stays

pub returns-clause-own : goal.returns-clause-own
returns-clause-own c = tells_own

pub returns-clause-again : goal.returns-clause-again
returns-clause-again c = aligned_again
