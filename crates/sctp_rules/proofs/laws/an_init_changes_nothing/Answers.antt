use Rattle.sctp_rules.proofs.Openings.{inits-still}
use Rattle.sctp_rules.proofs.laws.an_init_changes_nothing.Goals as goal

pub returns : goal.returns
returns c = inits-still
