use Rattle.sccp_relay.proofs.GoingOn.{goes_on-onward}
use Rattle.sccp_relay.proofs.laws.what_goes_on_reads_back.Goals as goal

pub returns : goal.returns
returns c = goes_on-onward
