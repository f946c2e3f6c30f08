use Rattle.sctp_sending.proofs.Retransmitting.{again-counts, first-counts, given-counts, t3-counts, cumulative-counts, sack-counts}
use Rattle.sctp_sending.proofs.laws.retransmissions_count_what_goes_out_again.Goals as goal

pub returns-clause-again : goal.returns-clause-again
returns-clause-again c = again-counts

pub returns-clause-first : goal.returns-clause-first
returns-clause-first c = first-counts

pub returns-clause-given : goal.returns-clause-given
returns-clause-given c = given-counts

pub returns-clause-t3 : goal.returns-clause-t3
returns-clause-t3 c = t3-counts

pub returns-clause-cumulative : goal.returns-clause-cumulative
returns-clause-cumulative c = cumulative-counts

pub returns-clause-sack : goal.returns-clause-sack
returns-clause-sack c = sack-counts
