-- The samples so far were put.
use Rattle.std.proofs.Common.{◌≡◌, ◌++◌}
use Rattle.exchange.specs.KeptQueues.{kept}
use Rattle.status_page.specs.Each.{each}
use Rattle.status_page.specs.Facts.{facts_of}
use Rattle.status_page.specs.Metrics.{set_sample}
use Rattle.status_page.proofs.sampling.put_set_samples.Given as goal

abbrev pub invariant-loop-k : goal.invariant-loop-k
invariant-loop-k l =
    l.body.items ≡ l.fn.body.items ++ each (set_sample kept l.fn.exchange (facts_of l.fn.facts) l.fn.family l.fn.metric) l.k
