-- As many sets as the loop has visited.
use Rattle.changeback.proofs.Basics.{◌≡◌, no_codes}
use Rattle.changeback.proofs.changeback.free_sets.Given as goal

abbrev pub invariant-loop-set : goal.invariant-loop-set
invariant-loop-set l = l.made.items ≡ no_codes l.set
