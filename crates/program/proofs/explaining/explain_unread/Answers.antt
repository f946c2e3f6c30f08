use Rattle.std.proofs.Common.{◌∙◌, refl}
use Rattle.std.proofs.lemmas.Result.{IfOk-weaker}
use Rattle.program.proofs.Told.{told-of}
use Rattle.program.proofs.explaining.explain_unread.Goals as goal

pub returns : goal.returns
returns g c = told-of c.format.result _ _ _
    (IfOk-weaker c.format.result _ _ (λ text written. written ∙ rw c.unread_text-why.ensures refl) c.format.ensures.ok) c.tell_made.ensures
