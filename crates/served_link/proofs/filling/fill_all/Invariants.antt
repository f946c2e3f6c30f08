-- Frames were taken so far, one after another.
use Rattle.served_link.proofs.Basics.{◌-◌, length, kept, Takes, pending_in}
use Rattle.served_link.specs.declared.outgoing.TheConstants.{OUTPUT_OCTETS}
use Rattle.served_link.proofs.filling.fill_all.Given as goal

abbrev pub invariant-loop-link : goal.invariant-loop-link
invariant-loop-link g l = Takes g.W.Watch.sees kept l.link (pending_in l.fn.outgoing) (pending_in l.outgoing) l.fn.exchange l.exchange l.fn.watch l.watch

abbrev pub decreases-loop-link : goal.decreases-loop-link
decreases-loop-link g l = OUTPUT_OCTETS - length (pending_in l.outgoing)
