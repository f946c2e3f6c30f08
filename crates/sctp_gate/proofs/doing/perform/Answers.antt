use Rattle.sctp_gate.proofs.doing.perform.Goals as goal

pub returns-in-Hear : goal.returns-in-Hear
returns-in-Hear g c = rw c.in-Hear.is c.hear.ensures
