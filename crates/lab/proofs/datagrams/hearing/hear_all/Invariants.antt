use Rattle.lab.proofs.HeardAll.{SoFar}
use Rattle.lab.proofs.datagrams.hearing.hear_all.Given as goal

abbrev pub invariant-loop-heard : goal.invariant-loop-heard
invariant-loop-heard g l =
    SoFar g.W.Watch.has l.fn.now l.heard (g.I.Incoming.coming l.fn.incoming) (g.I.Incoming.coming l.incoming) l.fn.watch l.watch l.fn.gate l.gate l.fn.exchange l.exchange
