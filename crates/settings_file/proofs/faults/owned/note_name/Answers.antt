use Rattle.settings_file.proofs.Basics.{string_bytes}
use Rattle.settings_file.proofs.Noting.{noted-read}
use Rattle.settings_file.proofs.faults.owned.note_name.Goals as goal

pub returns : goal.returns
returns c = noted-read (λ text. string_bytes text) _ c.name_at.result _ _ _ c.note.result c.name_at.ensures c.in_ok-fault.ensures.fault c.in_ok-fault.ensures.memory c.note.ensures
