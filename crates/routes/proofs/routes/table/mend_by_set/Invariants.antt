use Rattle.routes.proofs.Basics.{◌≡◌, goes_by_set, mended_below}
use Rattle.routes.proofs.routes.table.mend_by_set.Given as goal

abbrev pub invariant-loop-destination : goal.invariant-loop-destination
invariant-loop-destination l =
    l.rows ≡ mended_below l.destination (goes_by_set l.fn.set) l.fn.facts l.fn.rows
