use Rattle.settings_file.proofs.Basics.{inl, map-append, err_from_is_err_and, view, set_written, set_in}
use Rattle.settings_file.proofs.Each.{after-none, read-next, read-fault_or, read-all}
use Rattle.settings_file.proofs.arrays.each_set.Goals as goal

pub loop-i-init : goal.loop-i-init
loop-i-init c = rw c.in_ok-sets.ensures.items (after-none _)

pub loop-i-preserved : goal.loop-i-preserved
loop-i-preserved c =
    read-next view (set_in c.args.has_additions) c.args.values.now c.loop-i.i _ _ c.loop-i.invariant
    c.index-values-i.result _ _ c.loop-i-test.true c.index-values-i.is c.in_ok-set.ensures (rw c.in_ok-push.ensures.items (map-append set_written _ _))

pub returns-in_err-set : goal.returns-in_err-set
returns-in_err-set c =
    let p = err_from_is_err_and c.from_residual-in_err-set.result c.from_residual-in_err-set.ensures.1 in
    rw (p.1, p.2) (read-fault_or view (set_in c.args.has_additions) c.args.values.now c.loop-i.i _ _ c.loop-i.invariant
    c.index-values-i.result _ c.loop-i-test.true c.index-values-i.is c.in_err-set.ensures)

pub returns-in_err-push : goal.returns-in_err-push
returns-in_err-push c =
    let p = err_from_is_err_and c.from_residual-in_err-push.result c.from_residual-in_err-push.ensures.1 in
    rw p.1 (inl p.2)

pub returns-in_err-sets : goal.returns-in_err-sets
returns-in_err-sets c =
    let p = err_from_is_err_and c.from_residual.result c.from_residual.ensures.1 in
    rw p.1 (inl p.2)

pub returns : goal.returns
returns c = read-all view (set_in c.args.has_additions) c.args.values.now c.loop-i.i _ _ c.loop-i.invariant c.loop-i-test.false
