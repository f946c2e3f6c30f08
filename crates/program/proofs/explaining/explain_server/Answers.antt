use Rattle.program.proofs.Told.{told-of}
use Rattle.program.proofs.explaining.explain_server.Goals as goal

pub returns : goal.returns
returns g c = told-of c.sentence.result _ _ _ c.sentence.ensures c.tell_made.ensures
