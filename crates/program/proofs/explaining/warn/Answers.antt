use Rattle.program.proofs.Told.{told-of}
use Rattle.program.proofs.explaining.warn.Goals as goal

pub returns : goal.returns
returns g c = told-of c.warnings.result _ _ _ c.warnings.ensures c.tell_made.ensures
