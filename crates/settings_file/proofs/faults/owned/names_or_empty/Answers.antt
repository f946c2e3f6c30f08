use Rattle.settings_file.proofs.Basics.{refl, map, string_bytes}
use Rattle.settings_file.proofs.Noting.{empty-made}
use Rattle.settings_file.proofs.faults.owned.names_or_empty.Goals as goal

pub returns : goal.returns
returns c = empty-made (λ names. map (λ name. string_bytes name) names.items) _ c.names.result _ c.or_empty.result (rw c.new-empty.ensures.items refl) c.names.ensures c.or_empty.ensures.value c.or_empty.ensures.memory
