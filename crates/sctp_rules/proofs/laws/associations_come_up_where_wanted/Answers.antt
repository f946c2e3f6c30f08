use Rattle.sctp_rules.proofs.Wishing.{as-wished}
use Rattle.sctp_rules.proofs.laws.associations_come_up_where_wanted.Goals as goal

pub returns : goal.returns
returns c = as-wished
