-- None of the numbers looked at is marked.
use Rattle.route_management.specs.Marks.{NoneBetween}
use Rattle.route_management.proofs.marks.next_below.Given as goal

abbrev pub invariant-loop-number : goal.invariant-loop-number
invariant-loop-number l = NoneBetween l.marks l.from l.number
