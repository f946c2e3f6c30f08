use Rattle.settings.proofs.Basics.{[], inl, inr, refl, err_from_is_err_and, tables_fault}
use Rattle.settings.proofs.Firsts.{past, there}
use Rattle.settings.proofs.check.checked_tables.Goals as goal

pub returns-in_err-destinations-clause-fault : goal.returns-in_err-destinations-clause-fault
unfolding tables_fault
returns-in_err-destinations-clause-fault c =
    let p = err_from_is_err_and c.from_residual.result c.from_residual.ensures.1 in
    rw (p.1, p.2) (elim c.in_err-destinations.ensures.fault [ inl e ↦ inl e | inr e ↦ inr (there _ _ _ (rw (c.deref.ensures.value, c.deref-2.ensures.value, c.requires.own) at e)) ])

pub returns-in_err-titles-clause-fault : goal.returns-in_err-titles-clause-fault
unfolding tables_fault
returns-in_err-titles-clause-fault c =
    let p = err_from_is_err_and c.from_residual-in_err-titles.result c.from_residual-in_err-titles.ensures.1 in
    let d = rw (c.deref.ensures.value, c.deref-2.ensures.value, c.requires.own) at c.in_ok-destinations.ensures.well in
    rw (p.1, p.2) (elim c.in_err-titles.ensures.fault [ inl e ↦ inl e | inr e ↦ inr (past _ _ _ d (there _ _ _ (rw c.deref-3.ensures.value at e))) ])

pub returns-in_err-all_reached-clause-fault : goal.returns-in_err-all_reached-clause-fault
unfolding tables_fault
returns-in_err-all_reached-clause-fault c =
    let p = err_from_is_err_and c.from_residual-in_err-all_reached.result c.from_residual-in_err-all_reached.ensures.1 in
    let d = rw (c.deref.ensures.value, c.deref-2.ensures.value, c.requires.own) at c.in_ok-destinations.ensures.well in
    let t = rw c.deref-3.ensures.value at c.in_ok-titles.ensures.well in
    let e = rw (c.deref-4.ensures.value, c.deref-5.ensures.value) at c.in_err-all_reached.ensures.fault in
    rw (p.1, p.2) (inr (past _ _ _ d (past _ _ _ t (there _ [] _ e))))

pub returns-clause-well : goal.returns-clause-well
unfolding tables_fault
returns-clause-well c =
    let d = rw (c.deref.ensures.value, c.deref-2.ensures.value, c.requires.own) at c.in_ok-destinations.ensures.well in
    let t = rw c.deref-3.ensures.value at c.in_ok-titles.ensures.well in
    let r = rw (c.deref-4.ensures.value, c.deref-5.ensures.value) at c.in_ok-all_reached.ensures.well in
    past _ _ _ d (past _ _ _ t (past _ [] _ r refl))
