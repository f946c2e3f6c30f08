use Rattle.sctp_gate.proofs.Whole.{makes-whole, same-settled}
use Rattle.sctp_gate.proofs.gate.Gate.settle.Goals as goal

pub returns-clause-whole : goal.returns-clause-whole
returns-clause-whole g c = λ a s. makes-whole g.W.Watch.has _ _ _ _ _ _ c.do_as_link_wants.ensures (same-settled c.args.now c.args.self.now c.args.exchange.now a s)
