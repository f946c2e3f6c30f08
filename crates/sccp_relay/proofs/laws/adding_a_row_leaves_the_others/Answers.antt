use Rattle.sccp_relay.proofs.OtherRows.{stands, added}
use Rattle.sccp_relay.proofs.laws.adding_a_row_leaves_the_others.Goals as goal

pub returns-clause-own : goal.returns-clause-own
returns-clause-own c = stands

pub returns-clause-others : goal.returns-clause-others
returns-clause-others c = added
