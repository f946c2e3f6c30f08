use Rattle.sctp_bundling.proofs.reply.Reply.write.Goals as goal

pub returns-in-Init-clause-text : goal.returns-in-Init-clause-text
returns-in-Init-clause-text c = rw (c.in-Init.is, ← c.listed.ensures.listed) c.write_init.ensures.text
