use Rattle.settings.proofs.Basics.{◌≡◌, [], take, drop, entries_checks, destination_checks, AreSeen, tell_all}
use Rattle.settings.proofs.faults.destinations.tell_each.Given as goal

abbrev pub invariant-loop-i : goal.invariant-loop-i
invariant-loop-i l = record {
  seen : AreSeen l.seen (take l.i l.destinations);
  told : tell_all l.told.items (entries_checks (destination_checks l.own l.sets) (take l.i l.destinations) (drop l.i l.destinations)) ≡ tell_all l.fn.told.items (entries_checks (destination_checks l.own l.sets) [] l.destinations);
}
