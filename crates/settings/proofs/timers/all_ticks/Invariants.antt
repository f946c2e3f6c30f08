use Rattle.settings.proofs.Basics.{◌≡◌, [], length, map, take, drop, natural, entries_fault, ticks_fault}
use Rattle.settings.proofs.timers.all_ticks.Given as goal

abbrev pub invariant-loop-i : goal.invariant-loop-i
invariant-loop-i l = record {
  len : length l.all ≡ length l.timers;
  ticks : take l.i l.all ≡ map (λ w. natural w.ticks) (take l.i l.timers);
  fault : entries_fault ticks_fault (take l.i l.timers) (drop l.i l.timers) ≡ entries_fault ticks_fault [] l.timers;
}
