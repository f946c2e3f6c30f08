use Rattle.sccp_relay.proofs.OtherRows.{gone, left}
use Rattle.sccp_relay.proofs.laws.removing_a_row_leaves_the_others.Goals as goal

pub returns-clause-own : goal.returns-clause-own
returns-clause-own c = gone

pub returns-clause-others : goal.returns-clause-others
returns-clause-others c = left
