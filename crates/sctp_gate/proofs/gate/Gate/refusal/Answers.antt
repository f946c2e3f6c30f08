use Rattle.sctp_gate.proofs.gate.Gate.refusal.Goals as goal

pub returns : goal.returns
returns c = rw (← c.self.view_is) c.refusal.ensures
