use Rattle.sctp_links.proofs.Allowances.{bounded, few}
use Rattle.sctp_links.proofs.laws.inits_are_limited.Goals as goal

pub returns-clause-bounded : goal.returns-clause-bounded
returns-clause-bounded c = bounded

pub returns-clause-few : goal.returns-clause-few
returns-clause-few c = few
