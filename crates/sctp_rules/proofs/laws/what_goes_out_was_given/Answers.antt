use Rattle.sctp_rules.proofs.GivenMessages.{all-given}
use Rattle.sctp_rules.proofs.SentMessages.{all-sent, all-kept}
use Rattle.sctp_rules.proofs.laws.what_goes_out_was_given.Goals as goal

pub returns-clause-sent : goal.returns-clause-sent
returns-clause-sent c = all-sent

pub returns-clause-kept : goal.returns-clause-kept
returns-clause-kept c = all-kept

pub returns-clause-half : goal.returns-clause-half
returns-clause-half c = all-given
