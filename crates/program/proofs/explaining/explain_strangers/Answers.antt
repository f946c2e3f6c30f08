use Rattle.program.proofs.Told.{told-of}
use Rattle.program.proofs.explaining.explain_strangers.Goals as goal

pub returns : goal.returns
returns g c = told-of c.format.result _ _ _ c.format.ensures.ok c.tell_made.ensures
