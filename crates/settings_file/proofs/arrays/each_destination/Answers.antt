use Rattle.settings_file.proofs.Basics.{inl, map-append, err_from_is_err_and, view, destination_written, destination_in}
use Rattle.settings_file.proofs.Each.{after-none, read-next, read-fault_or, read-all}
use Rattle.settings_file.proofs.arrays.each_destination.Goals as goal

pub loop-i-init : goal.loop-i-init
loop-i-init c = rw c.in_ok-destinations.ensures.items (after-none _)

pub loop-i-preserved : goal.loop-i-preserved
loop-i-preserved c =
    read-next view (destination_in c.args.has_joined c.args.has_additions) c.args.values.now c.loop-i.i _ _ c.loop-i.invariant
    c.index-values-i.result _ _ c.loop-i-test.true c.index-values-i.is c.in_ok-destination.ensures (rw c.in_ok-push.ensures.items (map-append destination_written _ _))

pub returns-in_err-destination : goal.returns-in_err-destination
returns-in_err-destination c =
    let p = err_from_is_err_and c.from_residual-in_err-destination.result c.from_residual-in_err-destination.ensures.1 in
    rw (p.1, p.2) (read-fault_or view (destination_in c.args.has_joined c.args.has_additions) c.args.values.now c.loop-i.i _ _ c.loop-i.invariant
    c.index-values-i.result _ c.loop-i-test.true c.index-values-i.is c.in_err-destination.ensures)

pub returns-in_err-push : goal.returns-in_err-push
returns-in_err-push c =
    let p = err_from_is_err_and c.from_residual-in_err-push.result c.from_residual-in_err-push.ensures.1 in
    rw p.1 (inl p.2)

pub returns-in_err-destinations : goal.returns-in_err-destinations
returns-in_err-destinations c =
    let p = err_from_is_err_and c.from_residual.result c.from_residual.ensures.1 in
    rw p.1 (inl p.2)

pub returns : goal.returns
returns c = read-all view (destination_in c.args.has_joined c.args.has_additions) c.args.values.now c.loop-i.i _ _ c.loop-i.invariant c.loop-i-test.false
