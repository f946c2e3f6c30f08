use Rattle.std.proofs.Common.{rules, true, codes, string_bytes, ◌++◌}
use Rattle.std.proofs.lemmas.Result.{IfOk-weaker}
use Rattle.program.proofs.sentences.sentence.Goals as goal

pub returns-in-Ok : goal.returns-in-Ok
returns-in-Ok c = IfOk-weaker c.format.result _ _ (λ s written. record {
  is_shown = true;
  wrong = string_bytes c.in_ok-wrong.wrong ++ codes "\n";
  text = search rules;
}) c.format.ensures.ok
