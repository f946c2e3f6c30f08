use Rattle.settings.proofs.Basics.{[], inl, inr, refl, err_from_is_err_and}
use Rattle.settings.proofs.Firsts.{past, there}
use Rattle.settings.proofs.check.check_draft.Goals as goal

pub returns-in_err-scalars-clause-fault : goal.returns-in_err-scalars-clause-fault
returns-in_err-scalars-clause-fault c =
    let p = err_from_is_err_and c.from_residual.result c.from_residual.ensures.1 in
    rw (p.1, p.2) (inr (there _ _ _ c.in_err-scalars.ensures.fault))

pub returns-in_err-users-clause-fault : goal.returns-in_err-users-clause-fault
returns-in_err-users-clause-fault c =
    let p = err_from_is_err_and c.from_residual-in_err-users.result c.from_residual-in_err-users.ensures.1 in
    rw (p.1, p.2) (elim c.in_err-users.ensures.fault [ inl e ↦ inl e | inr e ↦ inr (past _ _ _ c.in_ok-scalars.ensures.well (there _ _ _ (rw c.deref.ensures.value at e))) ])

pub returns-in_err-subsystems-clause-fault : goal.returns-in_err-subsystems-clause-fault
returns-in_err-subsystems-clause-fault c =
    let p = err_from_is_err_and c.from_residual-in_err-subsystems.result c.from_residual-in_err-subsystems.ensures.1 in
    let u = rw c.deref.ensures.value at c.in_ok-users.ensures.well in
    rw (p.1, p.2) (elim c.in_err-subsystems.ensures.fault [ inl e ↦ inl e | inr e ↦ inr (past _ _ _ c.in_ok-scalars.ensures.well (past _ _ _ u (there _ _ _ (rw c.deref-2.ensures.value at e)))) ])

pub returns-in_err-timers-clause-fault : goal.returns-in_err-timers-clause-fault
returns-in_err-timers-clause-fault c =
    let p = err_from_is_err_and c.from_residual-in_err-timers.result c.from_residual-in_err-timers.ensures.1 in
    let u = rw c.deref.ensures.value at c.in_ok-users.ensures.well in
    let s = rw c.deref-2.ensures.value at c.in_ok-subsystems.ensures.well in
    rw (p.1, p.2) (inr (past _ _ _ c.in_ok-scalars.ensures.well (past _ _ _ u (past _ _ _ s (there _ _ _ c.in_err-timers.ensures.fault)))))

pub returns-in_err-arrays-clause-fault : goal.returns-in_err-arrays-clause-fault
returns-in_err-arrays-clause-fault c =
    let p = err_from_is_err_and c.from_residual-in_err-arrays.result c.from_residual-in_err-arrays.ensures.1 in
    let u = rw c.deref.ensures.value at c.in_ok-users.ensures.well in
    let s = rw c.deref-2.ensures.value at c.in_ok-subsystems.ensures.well in
    rw (p.1, p.2) (elim c.in_err-arrays.ensures.fault [ inl e ↦ inl e | inr e ↦ inr (past _ _ _ c.in_ok-scalars.ensures.well (past _ _ _ u (past _ _ _ s (past _ _ _ c.in_ok-timers.ensures.well (there _ [] _ e))))) ])

pub returns-clause-well : goal.returns-clause-well
returns-clause-well c =
    let u = rw c.deref.ensures.value at c.in_ok-users.ensures.well in
    let s = rw c.deref-2.ensures.value at c.in_ok-subsystems.ensures.well in
    past _ _ _ c.in_ok-scalars.ensures.well (past _ _ _ u (past _ _ _ s (past _ _ _ c.in_ok-timers.ensures.well (past _ [] _ c.in_ok-arrays.ensures.well refl))))
