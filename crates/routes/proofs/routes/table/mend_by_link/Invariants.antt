use Rattle.routes.proofs.Basics.{◌≡◌, goes_by_link, mended_below}
use Rattle.routes.proofs.routes.table.mend_by_link.Given as goal

abbrev pub invariant-loop-destination : goal.invariant-loop-destination
invariant-loop-destination l =
    l.rows ≡ mended_below l.destination (goes_by_link l.fn.facts l.fn.link) l.fn.facts l.fn.rows
