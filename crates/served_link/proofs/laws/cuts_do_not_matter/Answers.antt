use Rattle.served_link.proofs.Basics.{kept, whole}
use Rattle.served_link.proofs.OneRead.{cuts-same}
use Rattle.served_link.proofs.laws.cuts_do_not_matter.Goals as goal

pub returns-clause-whole : goal.returns-clause-whole
returns-clause-whole g c = cuts-same g.W.Watch.sees whole

pub returns-clause-kept : goal.returns-clause-kept
returns-clause-kept g c = cuts-same g.W.Watch.sees kept
