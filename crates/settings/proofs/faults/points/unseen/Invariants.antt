use Rattle.settings.proofs.Basics.{◌≡◌, replicate, false}
use Rattle.settings.proofs.faults.points.unseen.Given as goal

abbrev pub invariant-loop-code : goal.invariant-loop-code
invariant-loop-code l = l.seen.items ≡ replicate l.code false
