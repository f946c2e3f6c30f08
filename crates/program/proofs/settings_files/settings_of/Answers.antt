use Rattle.std.proofs.Common.{◌∙◌, Ok}
use Rattle.std.proofs.lemmas.Result.{IfOk-weaker, IfErr-weaker}
use Rattle.program.proofs.Files.{has-from, ends-from}
use Rattle.program.proofs.settings_files.settings_of.Goals as goal

pub returns-clause-settings : goal.returns-clause-settings
returns-clause-settings g c =
    let octets = c.in-Ok.parsed.octets.items in
    IfOk-weaker c.settings_in-settings.result _ _
    (λ settings h. (Ok octets, c.in-Ok.ensures.document.0, has-from c.args.file.now octets settings _ _ _ c.in-Ok.ensures.untold h.0, h.1 ∙ c.in-Ok.ensures.unwritten))
    c.settings_in-settings.ensures.settings

pub returns-clause-ended : goal.returns-clause-ended
returns-clause-ended g c =
    let octets = c.in-Ok.parsed.octets.items in
    IfErr-weaker c.settings_in-settings.result _ _
    (λ ended h. (Ok octets, c.in-Ok.ensures.document.0, ends-from c.args.file.now octets _ _ _ _ _ _ ended c.in-Ok.ensures.unwritten c.in-Ok.ensures.untold h))
    c.settings_in-settings.ensures.ended
