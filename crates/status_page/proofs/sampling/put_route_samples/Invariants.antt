-- The samples so far were put.
use Rattle.std.proofs.Common.{◌≡◌, ◌++◌}
use Rattle.status_page.specs.Each.{each}
use Rattle.status_page.specs.Metrics.{ways_text}
use Rattle.status_page.proofs.sampling.put_route_samples.Given as goal

abbrev pub invariant-loop-k : goal.invariant-loop-k
invariant-loop-k l =
    l.body.items ≡ l.fn.body.items ++ each (ways_text l.fn.points l.fn.exchange l.fn.family) l.k
