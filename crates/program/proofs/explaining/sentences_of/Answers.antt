use Rattle.std.proofs.lemmas.Result.{IfOk-weaker}
use Rattle.program.proofs.explaining.sentences_of.Goals as goal

pub returns : goal.returns
returns c =
    IfOk-weaker c.all_sentences.result _ _ (λ text told. record { faults = c.in_ok-faults.faults.items; all = c.in_ok-faults.ensures; explained = told }) (rw (c.deref.ensures.value, c.deref-2.ensures.value) at c.all_sentences.ensures)
