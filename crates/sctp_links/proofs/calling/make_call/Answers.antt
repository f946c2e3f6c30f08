use Rattle.sctp_links.proofs.calling.make_call.Goals as goal

pub returns-in-Hear : goal.returns-in-Hear
returns-in-Hear g c = rw c.in-Hear.is c.hear.ensures.kept
