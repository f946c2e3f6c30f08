use Rattle.served_link.proofs.Basics.{kept, whole}
use Rattle.served_link.proofs.OneRead.{broken-stays}
use Rattle.served_link.proofs.laws.broken_stays_broken.Goals as goal

pub returns-clause-whole : goal.returns-clause-whole
returns-clause-whole g c = broken-stays g.W.Watch.sees whole

pub returns-clause-kept : goal.returns-clause-kept
returns-clause-kept g c = broken-stays g.W.Watch.sees kept
