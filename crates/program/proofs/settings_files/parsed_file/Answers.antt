use Rattle.std.proofs.Common.{Ok}
use Rattle.std.proofs.lemmas.Result.{IfErr-weaker}
use Rattle.program.proofs.settings_files.parsed_file.Goals as goal

pub returns-in-Ok-clause-ended : goal.returns-in-Ok-clause-ended
returns-in-Ok-clause-ended g c =
    IfErr-weaker c.with_document.result _ _ (λ ended h. (Ok c.in-Ok.octets.items, c.in-Ok.ensures, h)) c.with_document.ensures.ended
