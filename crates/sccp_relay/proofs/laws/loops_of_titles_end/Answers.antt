use Rattle.sccp_relay.proofs.Hops.{at_most-14}
use Rattle.sccp_relay.proofs.laws.loops_of_titles_end.Goals as goal

pub returns : goal.returns
returns c = at_most-14
