-- The metrics are after the head.
use Rattle.std.proofs.Common.{List, ap, flat_map}
use Rattle.exchange.specs.KeptQueues.{kept}
use Rattle.status_page.specs.Facts.{facts_of}
use Rattle.status_page.specs.declared.metric.Metric.{Metric}
use Rattle.status_page.specs.Metrics.{family_text, metric_text}
use Rattle.status_page.proofs.Adding.{text_behind}
use Rattle.status_page.proofs.metrics.put_family.Goals as goal

pub returns : goal.returns
unfolding family_text
returns c =
    text_behind c.put_each.result _ _ _ _ _ _ c.in_ok-put_head.ensures c.put_each.ensures
    (ap (λ (ms : List Metric). flat_map (metric_text kept c.args.exchange.now (facts_of c.args.facts.now) c.args.family) ms) c.metrics.ensures)
