use Rattle.settings.proofs.Basics.{◌≡◌, [], take, drop, entries_checks, set_checks, tell_all}
use Rattle.settings.proofs.faults.sets.tell_each.Given as goal

abbrev pub invariant-loop-i : goal.invariant-loop-i
invariant-loop-i l = tell_all l.told.items (entries_checks (set_checks l.own) (take l.i l.sets) (drop l.i l.sets)) ≡ tell_all l.fn.told.items (entries_checks (set_checks l.own) [] l.sets)
