use Rattle.sctp_gate.proofs.Agreeing.{streams}
use Rattle.sctp_gate.proofs.laws.frames_go_out_on_their_streams.Goals as goal

pub returns : goal.returns
returns c = streams
