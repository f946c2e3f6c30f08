use Rattle.settings_file.proofs.Noting.{empty-made}
use Rattle.settings_file.proofs.faults.owned.integers_or_empty.Goals as goal

pub returns : goal.returns
returns c = empty-made (λ integers. integers.items) _ c.integers_if_any.result _ c.or_empty.result c.new-empty.ensures.items c.integers_if_any.ensures c.or_empty.ensures.value c.or_empty.ensures.memory
