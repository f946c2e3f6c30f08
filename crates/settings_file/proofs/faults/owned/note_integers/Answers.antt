use Rattle.settings_file.proofs.Noting.{noted-read}
use Rattle.settings_file.proofs.faults.owned.note_integers.Goals as goal

pub returns : goal.returns
returns c = noted-read (λ integers. integers.items) _ c.integers_if_any.result _ _ _ c.note.result c.integers_if_any.ensures c.in_ok-fault.ensures.fault c.in_ok-fault.ensures.memory c.note.ensures
