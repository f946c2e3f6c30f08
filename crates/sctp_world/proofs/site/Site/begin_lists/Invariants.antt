use Rattle.sctp_world.proofs.Sites.{Begun}
use Rattle.sctp_world.proofs.site.Site.begin_lists.Given as goal

abbrev pub invariant-loop-i : goal.invariant-loop-i
invariant-loop-i l = Begun l.fn.self l.self l.i l.fn.from
