-- None of the blocks looked at has a marked number, from this one on.
use Rattle.route_management.proofs.Basics.{◌*◌, NoneBetween}
use Rattle.route_management.proofs.marks.Marks.next.Given as goal

abbrev pub invariant-loop-block : goal.invariant-loop-block
invariant-loop-block l = NoneBetween l.self-inside.marks.items l.from (64 * l.block)
