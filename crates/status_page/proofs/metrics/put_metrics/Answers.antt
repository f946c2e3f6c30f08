-- They are all families.
use Rattle.status_page.specs.Metrics.{metrics_text}
use Rattle.status_page.proofs.metrics.put_metrics.Goals as goal

pub returns : goal.returns
unfolding metrics_text
returns c = c.put_families.ensures
