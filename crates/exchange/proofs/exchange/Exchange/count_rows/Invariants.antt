-- The flows to as many destinations were counted as the loop has visited.
use Rattle.exchange.specs.DueFlows.{IsCountedBelow}
use Rattle.exchange.proofs.exchange.Exchange.count_rows.Given as goal

abbrev pub invariant-loop-destination : goal.invariant-loop-destination
invariant-loop-destination l = IsCountedBelow l.fn.self l.destination l.self
