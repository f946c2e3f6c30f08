use Rattle.settings.proofs.Basics.{◌≡◌, [], take, drop, entries_checks, reached_checks, tell_all}
use Rattle.settings.proofs.faults.sets.tell_unreached.Given as goal

abbrev pub invariant-loop-i : goal.invariant-loop-i
invariant-loop-i l = tell_all l.told.items (entries_checks (reached_checks l.destinations) (take l.i l.sets) (drop l.i l.sets)) ≡ tell_all l.fn.told.items (entries_checks (reached_checks l.destinations) [] l.sets)
