-- The frame that goes out is that of the abstract state, too.
use Rattle.exchange.proofs.Standing.{stands-taken, stands-frame}
use Rattle.exchange.proofs.exchange.Exchange.take.Goals as goal

pub returns-clause-frame : goal.returns-clause-frame
returns-clause-frame c = λ a s. rw (← stands-frame c.args.link _ a s) c.write_next_frame.ensures.frame

pub returns-clause-state : goal.returns-clause-state
returns-clause-state c = λ a s. rw c.write_next_frame.ensures.state (stands-taken c.args.link _ a s)
