use Rattle.sctp_ends.proofs.Happening.{happens, told-thrice}
use Rattle.sctp_ends.proofs.laws.two_messages_are_told_in_order.Goals as goal

pub returns-clause-run : goal.returns-clause-run
returns-clause-run c = happens

pub returns-clause-once : goal.returns-clause-once
returns-clause-once c = told-thrice
