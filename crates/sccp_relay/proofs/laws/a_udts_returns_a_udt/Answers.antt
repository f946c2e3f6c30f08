use Rattle.sccp_relay.proofs.GoingBack.{returned-udt}
use Rattle.sccp_relay.proofs.laws.a_udts_returns_a_udt.Goals as goal

pub returns : goal.returns
returns c = returned-udt
