-- With the remaining metrics, it gives what all of them give.
use Rattle.std.proofs.Common.{◌≡◌, ◌++◌, drop, flat_map}
use Rattle.exchange.specs.KeptQueues.{kept}
use Rattle.status_page.specs.Facts.{facts_of}
use Rattle.status_page.specs.Metrics.{metric_text}
use Rattle.status_page.proofs.metrics.put_each.Given as goal

abbrev pub invariant-loop-metric : goal.invariant-loop-metric
invariant-loop-metric l =
    l.body.items ++ flat_map (metric_text kept l.fn.exchange (facts_of l.fn.facts) l.fn.family) (drop l.metric-index l.metrics)
    ≡ l.fn.body.items ++ flat_map (metric_text kept l.fn.exchange (facts_of l.fn.facts) l.fn.family) l.fn.metrics
