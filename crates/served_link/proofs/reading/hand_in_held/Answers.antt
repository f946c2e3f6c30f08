-- A text that was cut off was handed in after those before.
use Rattle.served_link.proofs.Basics.{take, kept}
use Rattle.served_link.proofs.Handing.{hands-one, hands-more}
use Rattle.served_link.proofs.reading.hand_in_held.Goals as goal

pub loop-count-preserved : goal.loop-count-preserved
loop-count-preserved g c =
    let sees = g.W.Watch.sees in
    let first = c.in-Whole.ensures.first in
    hands-more sees kept c.args.link c.args.framer.now c.loop-count.framer c.next.new.self _ _ _ _ _ _ c.loop-count.invariant
    (hands-one sees kept c.args.link c.loop-count.framer (take c.in-Whole.count c.next.new.out) c.next.new.self _ _ _ _ first.1 first.0 c.hand_in.ensures.state c.hand_in.ensures.seen)
