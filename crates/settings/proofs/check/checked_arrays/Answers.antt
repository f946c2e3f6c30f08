use Rattle.settings.proofs.Basics.{[], inl, inr, refl, err_from_is_err_and, arrays_fault}
use Rattle.settings.proofs.Firsts.{past, there}
use Rattle.settings.proofs.check.checked_arrays.Goals as goal

pub returns-in_err-sets-clause-fault : goal.returns-in_err-sets-clause-fault
unfolding arrays_fault
returns-in_err-sets-clause-fault c =
    let p = err_from_is_err_and c.from_residual.result c.from_residual.ensures.1 in
    rw (p.1, p.2) (elim c.in_err-sets.ensures.fault [ inl e ↦ inl e | inr e ↦ inr (there _ _ _ (rw (c.deref.ensures.value, c.requires) at e)) ])

pub returns-in_err-links-clause-fault : goal.returns-in_err-links-clause-fault
unfolding arrays_fault
returns-in_err-links-clause-fault c =
    let p = err_from_is_err_and c.from_residual-in_err-links.result c.from_residual-in_err-links.ensures.1 in
    let s = rw (c.deref.ensures.value, c.requires) at c.in_ok-sets.ensures.well in
    rw (p.1, p.2) (elim c.in_err-links.ensures.fault [ inl e ↦ inl e | inr e ↦ inr (past _ _ _ s (there _ _ _ (rw (c.deref-2.ensures.value, c.deref-3.ensures.value) at e))) ])

pub returns-in_err-tables-clause-fault : goal.returns-in_err-tables-clause-fault
unfolding arrays_fault
returns-in_err-tables-clause-fault c =
    let p = err_from_is_err_and c.from_residual-in_err-tables.result c.from_residual-in_err-tables.ensures.1 in
    let s = rw (c.deref.ensures.value, c.requires) at c.in_ok-sets.ensures.well in
    let l = rw (c.deref-2.ensures.value, c.deref-3.ensures.value) at c.in_ok-links.ensures.well in
    rw (p.1, p.2) (elim c.in_err-tables.ensures.fault [ inl e ↦ inl e | inr e ↦ inr (past _ _ _ s (past _ _ _ l (there _ [] _ e))) ])

pub returns-clause-well : goal.returns-clause-well
unfolding arrays_fault
returns-clause-well c =
    let s = rw (c.deref.ensures.value, c.requires) at c.in_ok-sets.ensures.well in
    let l = rw (c.deref-2.ensures.value, c.deref-3.ensures.value) at c.in_ok-links.ensures.well in
    past _ _ _ s (past _ _ _ l (past _ [] _ c.in_ok-tables.ensures.well refl))
