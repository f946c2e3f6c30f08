use Rattle.settings_file.proofs.Basics.{refl, array_in}
use Rattle.settings_file.proofs.Each.{listed-items_view}
use Rattle.settings_file.proofs.shapes.array_in.Goals as goal

pub returns-in-Some : goal.returns-in-Some
unfolding array_in
returns-in-Some g c = rw (← c.in-Some.ensures, c.as_slice.ensures.value, listed-items_view) refl
