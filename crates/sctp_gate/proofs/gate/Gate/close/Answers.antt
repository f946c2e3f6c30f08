use Rattle.sctp_gate.proofs.Whole.{makes-whole, same-aborted}
use Rattle.sctp_gate.proofs.gate.Gate.close.Goals as goal

pub returns-clause-whole : goal.returns-clause-whole
returns-clause-whole g c = λ a s. makes-whole g.W.Watch.has _ _ _ _ _ _ c.abort.ensures (same-aborted c.args.now c.args.self.now c.args.exchange.now a s)
