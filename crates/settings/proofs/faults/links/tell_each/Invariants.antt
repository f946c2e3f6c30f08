use Rattle.settings.proofs.Basics.{◌≡◌, [], take, drop, entries_checks, link_checks, tell_all}
use Rattle.settings.proofs.faults.links.tell_each.Given as goal

abbrev pub invariant-loop-i : goal.invariant-loop-i
invariant-loop-i l = tell_all l.told.items (entries_checks (link_checks l.sets) (take l.i l.links) (drop l.i l.links)) ≡ tell_all l.fn.told.items (entries_checks (link_checks l.sets) [] l.links)
