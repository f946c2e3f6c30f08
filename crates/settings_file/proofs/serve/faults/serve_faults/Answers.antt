use Rattle.settings_file.proofs.Basics.{refl}
use Rattle.settings_file.proofs.serve.faults.serve_faults.Goals as goal

pub returns : goal.returns
returns c = λ s. rw (c.in_ok-note_links.ensures s, c.in_ok-note_table.ensures s, c.new-faults.ensures.items, c.own_read.ensures s) refl
