use Rattle.settings.proofs.Basics.{◌≡◌, [], take, drop, entries_checks, title_checks, AreOf, tell_all}
use Rattle.settings.proofs.faults.titles.tell_each.Given as goal

abbrev pub invariant-loop-i : goal.invariant-loop-i
invariant-loop-i l = record {
  seen : AreOf l.seen.keys (take l.i l.titles);
  told : tell_all l.told.items (entries_checks title_checks (take l.i l.titles) (drop l.i l.titles)) ≡ tell_all l.fn.told.items (entries_checks title_checks [] l.titles);
}
