use Rattle.settings.proofs.Basics.{◌≡◌, [], take, drop, entries_fault, reached_fault}
use Rattle.settings.proofs.sets.all_reached.Given as goal

abbrev pub invariant-loop-i : goal.invariant-loop-i
invariant-loop-i l =
    entries_fault (reached_fault l.destinations) (take l.i l.sets) (drop l.i l.sets) ≡ entries_fault (reached_fault l.destinations) [] l.sets
