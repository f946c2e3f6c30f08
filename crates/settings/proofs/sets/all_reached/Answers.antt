use Rattle.settings.proofs.Basics.{◌≡◌, ◌∙◌, ◌<◌, ◌≤◌, ℕ, List, Some, None, length, take, arith, common_steps, err_from_is_err_and, fault_unless, unreached_fault, reached_fault, is_reached, SetDraft, UnknownName, SetAdjacent}
use Rattle.settings.proofs.Entries.{past_entry, at_entry, past_all}
use Rattle.settings.proofs.sets.all_reached.Goals as goal

taken : (sets : List SetDraft) (i : ℕ) → i < length sets → length (take i sets) ≡ i
taken sets i l = grind (arith, common_steps)

pub returns-in_err-ensure-clause-fault : goal.returns-in_err-ensure-clause-fault
unfolding unreached_fault
returns-in_err-ensure-clause-fault c =
    let p = err_from_is_err_and c.from_residual.result c.from_residual.ensures.1 in
    let l : c.loop-i.i < length c.args.sets.now = omega (arith, c.loop-i-test.true) in
    let e : fault_unless (is_reached c.args.destinations.now c.index-sets-i.result) UnknownName (SetAdjacent (length (take c.loop-i.i c.args.sets.now))) ≡ Some _ = rw (taken c.args.sets.now c.loop-i.i l, ← c.is_reached-is_reached.ensures) c.in_err-ensure.ensures.fault in
    rw (p.1, p.2) (rw (← c.loop-i.invariant) (at_entry (reached_fault c.args.destinations.now) c.args.sets.now c.loop-i.i c.index-sets-i.result _ _ l c.index-sets-i.is e))

pub loop-i-preserved : goal.loop-i-preserved
loop-i-preserved c =
    let l : c.loop-i.i < length c.args.sets.now = omega (arith, c.loop-i-test.true) in
    let e : fault_unless (is_reached c.args.destinations.now c.index-sets-i.result) UnknownName (SetAdjacent (length (take c.loop-i.i c.args.sets.now))) ≡ None = rw (taken c.args.sets.now c.loop-i.i l, ← c.is_reached-is_reached.ensures) c.in_ok-ensure.ensures.well in
    past_entry (reached_fault c.args.destinations.now) c.args.sets.now c.loop-i.i c.index-sets-i.result _ l c.index-sets-i.is e ∙ c.loop-i.invariant

pub returns-clause-well : goal.returns-clause-well
unfolding unreached_fault
returns-clause-well c =
    let l : length c.args.sets.now ≤ c.loop-i.i = omega (arith, c.loop-i-test.false) in
    rw (← c.loop-i.invariant) (past_all (reached_fault c.args.destinations.now) c.args.sets.now c.loop-i.i l)
