use Rattle.exchange.specs.KeptQueues.{kept}
use Rattle.exchange_rules.specs.Queues.{whole}
use Rattle.sctp_gate.proofs.GoingOut.{frames-out, frames-given}
use Rattle.sctp_gate.proofs.laws.frames_that_are_taken_go_out.Goals as goal

pub returns : goal.returns
returns c = record { whole = frames-out whole; kept = frames-out kept; given = frames-given }
