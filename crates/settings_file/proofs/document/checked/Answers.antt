use Rattle.settings_file.proofs.Basics.{SFits, w64, [], inl, inr, refl, rules, to_z-of_z, err_from_is_err_and, settings_fault}
use Rattle.settings.proofs.Firsts.{past, there}
use Rattle.settings_file.proofs.document.checked.Goals as goal

pub returns-in_err-settings-clause-fault : goal.returns-in_err-settings-clause-fault
unfolding settings_fault
returns-in_err-settings-clause-fault c =
    let p = err_from_is_err_and c.from_residual.result c.from_residual.ensures.1 in
    rw (p.1, p.2) (elim c.in_err-settings.ensures.fault [ inl memory ↦ inl memory | inr fault ↦ inr (there _ _ _ fault) ])

pub returns-in_err-keep_limits-clause-fault : goal.returns-in_err-keep_limits-clause-fault
unfolding settings_fault
returns-in_err-keep_limits-clause-fault c =
    let p = err_from_is_err_and c.from_residual-in_err-keep_limits.result c.from_residual-in_err-keep_limits.ensures.1 in
    let fits : SFits w64 c.args.version = search rules in
    let limits = rw (to_z-of_z _ _ fits, c.in_ok-settings.ensures.settings) at c.in_err-keep_limits.ensures.fault in
    rw (p.1, p.2) (inr (past _ _ _ c.in_ok-settings.ensures.well (there _ [] _ limits)))

pub returns-clause-well : goal.returns-clause-well
unfolding settings_fault
returns-clause-well c =
    let fits : SFits w64 c.args.version = search rules in
    let limits = rw (to_z-of_z _ _ fits, c.in_ok-settings.ensures.settings) at c.in_ok-keep_limits.ensures.well in
    past _ _ _ c.in_ok-settings.ensures.well (past _ [] _ limits refl)
