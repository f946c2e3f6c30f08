use Rattle.program.proofs.Told.{told-of}
use Rattle.program.proofs.explaining.explain_faults.Goals as goal

pub returns : goal.returns
returns g c = told-of c.sentences_of.result _ _ _ c.sentences_of.ensures c.tell_made.ensures
