use Rattle.settings_file.proofs.Basics.{map, string_bytes}
use Rattle.settings_file.proofs.Noting.{noted-read}
use Rattle.settings_file.proofs.faults.owned.note_names.Goals as goal

pub returns : goal.returns
returns c = noted-read (λ names. map (λ name. string_bytes name) names.items) _ c.names.result _ _ _ c.note.result c.names.ensures c.in_ok-fault.ensures.fault c.in_ok-fault.ensures.memory c.note.ensures
