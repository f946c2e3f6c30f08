use Rattle.served_link.proofs.Basics.{kept, whole}
use Rattle.served_link.proofs.OneRead.{last-one}
use Rattle.served_link.proofs.laws.last_reads_are_one.Goals as goal

pub returns-clause-whole : goal.returns-clause-whole
returns-clause-whole g c = last-one g.W.Watch.sees whole

pub returns-clause-kept : goal.returns-clause-kept
returns-clause-kept g c = last-one g.W.Watch.sees kept
