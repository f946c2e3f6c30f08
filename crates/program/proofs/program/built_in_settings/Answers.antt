use Rattle.std.proofs.Common.{◌∙◌}
use Rattle.program.proofs.BuiltIn.{settings-meant, built_in_fault}
use Rattle.program.proofs.program.built_in_settings.Goals as goal

pub returns-in-Err-clause-fault : goal.returns-in-Err-clause-fault
returns-in-Err-clause-fault c = built_in_fault c.in_ok-draft.draft _ c.in_ok-draft.ensures c.in-Err.ensures.fault

pub returns-in-Ok-clause-settings : goal.returns-in-Ok-clause-settings
returns-in-Ok-clause-settings c = c.in-Ok.ensures.settings ∙ settings-meant c.in_ok-draft.draft c.in_ok-draft.ensures
