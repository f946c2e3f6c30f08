use Rattle.program.proofs.Told.{told-of}
use Rattle.program.proofs.explaining.explain_script.Goals as goal

pub returns-in-Line : goal.returns-in-Line
returns-in-Line g c = rw c.in-Line.is (c.args.line.now, told-of c.sentence.result _ _ _ c.sentence.ensures c.tell_made.ensures)
