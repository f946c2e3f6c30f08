use Rattle.program.proofs.Told.{told-of}
use Rattle.program.proofs.explaining.warn_of_values.Goals as goal

pub returns : goal.returns
returns g c = told-of c.value_warnings.result _ _ _ c.value_warnings.ensures c.tell_made.ensures
