use Rattle.settings.proofs.Basics.{◌≡◌, [], take, drop, entries_checks, ticks_checks, tell_all}
use Rattle.settings.proofs.faults.timers.tell_each.Given as goal

abbrev pub invariant-loop-i : goal.invariant-loop-i
invariant-loop-i l = tell_all l.told.items (entries_checks ticks_checks (take l.i l.timers) (drop l.i l.timers)) ≡ tell_all l.fn.told.items (entries_checks ticks_checks [] l.timers)
