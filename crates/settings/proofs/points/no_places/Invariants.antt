use Rattle.settings.proofs.Basics.{◌≡◌, replicate, None}
use Rattle.settings.proofs.points.no_places.Given as goal

-- as many as the loop has visited
abbrev pub invariant-loop-code : goal.invariant-loop-code
invariant-loop-code l = l.places.items ≡ replicate l.code None
