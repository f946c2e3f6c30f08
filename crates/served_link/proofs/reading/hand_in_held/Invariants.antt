-- What was held at first is the texts that were handed in so far, with what is held now.
use Rattle.served_link.proofs.Basics.{length, kept, HandsIn}
use Rattle.served_link.proofs.reading.hand_in_held.Given as goal

abbrev pub invariant-loop-count : goal.invariant-loop-count
invariant-loop-count g l = HandsIn g.W.Watch.sees kept l.link l.fn.framer l.framer l.fn.exchange l.exchange l.fn.watch l.watch

abbrev pub decreases-loop-count : goal.decreases-loop-count
decreases-loop-count g l = length l.framer
