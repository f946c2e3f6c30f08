-- As many destinations have their sets as the loop has visited.
use Rattle.exchange.proofs.Basics.{◌≡◌, None, replicate}
use Rattle.signalling_types.specs.declared.limits.TheConstants.Limits.{SELECTIONS}
use Rattle.exchange.proofs.reroutings.FlowSets.none.Given as goal

abbrev pub invariant-loop-destination : goal.invariant-loop-destination
invariant-loop-destination l = l.rows.items ≡ replicate l.destination (replicate SELECTIONS None)
