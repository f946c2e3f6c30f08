use Rattle.settings_file.proofs.Basics.{string_bytes}
use Rattle.settings_file.proofs.Noting.{empty-made}
use Rattle.settings_file.proofs.faults.owned.name_or_empty.Goals as goal

pub returns : goal.returns
returns c = empty-made (λ text. string_bytes text) _ c.name_at.result _ c.or_empty.result c.new-empty.ensures.bytes c.name_at.ensures c.or_empty.ensures.value c.or_empty.ensures.memory
