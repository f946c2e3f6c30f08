-- As many flows were looked at as the loop has visited.
use Rattle.changeback.proofs.Basics.{◌≡◌, length, nat_lt, facts_of, moved_from, held_for}
use Rattle.changeback.proofs.rerouting.hold_moved.Given as goal

abbrev pub invariant-loop-selection : goal.invariant-loop-selection
invariant-loop-selection l = record {
  holds : l.holds ≡ held_for l.destination (moved_from l.before (facts_of l.links) l.destination l.selection) l.fn.holds;
  moved : l.moved ≡ nat_lt 0 (length (moved_from l.before (facts_of l.links) l.destination l.selection));
}
