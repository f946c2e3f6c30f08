use Rattle.settings_file.proofs.Basics.{refl}
use Rattle.settings_file.proofs.Each.{listed-items_view}
use Rattle.settings_file.proofs.serve.paths.entries_in.Goals as goal

pub returns-in-Some : goal.returns-in-Some
returns-in-Some c = rw (← c.in-Some.ensures, c.as_slice.ensures.value, listed-items_view) refl
