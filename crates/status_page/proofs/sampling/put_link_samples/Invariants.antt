-- The samples so far were put.
use Rattle.std.proofs.Common.{◌≡◌, ◌++◌}
use Rattle.exchange.specs.KeptQueues.{kept}
use Rattle.status_page.specs.Each.{each}
use Rattle.status_page.specs.Facts.{facts_of}
use Rattle.status_page.specs.Metrics.{link_sample}
use Rattle.status_page.proofs.sampling.put_link_samples.Given as goal

abbrev pub invariant-loop-k : goal.invariant-loop-k
invariant-loop-k l =
    l.body.items ≡ l.fn.body.items ++ each (link_sample kept l.fn.exchange (facts_of l.fn.facts) l.fn.family l.fn.metric) l.k
