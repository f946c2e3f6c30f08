-- With the remaining families, it gives what all of them give.
use Rattle.std.proofs.Common.{◌≡◌, ◌++◌, drop}
use Rattle.exchange.specs.KeptQueues.{kept}
use Rattle.status_page.specs.Facts.{facts_of}
use Rattle.status_page.specs.Metrics.{families_text}
use Rattle.status_page.proofs.metrics.put_families.Given as goal

abbrev pub invariant-loop-family : goal.invariant-loop-family
invariant-loop-family l =
    l.body.items ++ families_text kept l.fn.exchange (facts_of l.fn.facts) (drop l.family-index l.families)
    ≡ l.fn.body.items ++ families_text kept l.fn.exchange (facts_of l.fn.facts) l.fn.families
