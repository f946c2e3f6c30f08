-- The links so far were counted.
use Rattle.std.proofs.Common.{◌≡◌}
use Rattle.exchange.specs.KeptQueues.{kept}
use Rattle.status_page.specs.Measuring.{serving_first}
use Rattle.status_page.proofs.set_values.links_in_service.Given as goal

abbrev pub invariant-loop-k : goal.invariant-loop-k
invariant-loop-k l = l.links ≡ serving_first kept l.fn.exchange l.fn.set l.k
