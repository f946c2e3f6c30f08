use Rattle.settings_file.proofs.Basics.{inl, map-append, err_from_is_err_and, view, link_written, link_entry_in}
use Rattle.settings_file.proofs.Each.{after-none, read-next, read-fault_or, read-all}
use Rattle.settings_file.proofs.arrays.each_link.Goals as goal

pub loop-i-init : goal.loop-i-init
loop-i-init c = rw c.in_ok-links.ensures.items (after-none _)

pub loop-i-preserved : goal.loop-i-preserved
loop-i-preserved c =
    read-next view (link_entry_in c.args.has_share c.args.has_longer) c.args.values.now c.loop-i.i _ _ c.loop-i.invariant
    c.index-values-i.result _ _ c.loop-i-test.true c.index-values-i.is c.in_ok-link.ensures (rw c.in_ok-push.ensures.items (map-append link_written _ _))

pub returns-in_err-link : goal.returns-in_err-link
returns-in_err-link c =
    let p = err_from_is_err_and c.from_residual-in_err-link.result c.from_residual-in_err-link.ensures.1 in
    rw (p.1, p.2) (read-fault_or view (link_entry_in c.args.has_share c.args.has_longer) c.args.values.now c.loop-i.i _ _ c.loop-i.invariant
    c.index-values-i.result _ c.loop-i-test.true c.index-values-i.is c.in_err-link.ensures)

pub returns-in_err-push : goal.returns-in_err-push
returns-in_err-push c =
    let p = err_from_is_err_and c.from_residual-in_err-push.result c.from_residual-in_err-push.ensures.1 in
    rw p.1 (inl p.2)

pub returns-in_err-links : goal.returns-in_err-links
returns-in_err-links c =
    let p = err_from_is_err_and c.from_residual.result c.from_residual.ensures.1 in
    rw p.1 (inl p.2)

pub returns : goal.returns
returns c = read-all view (link_entry_in c.args.has_share c.args.has_longer) c.args.values.now c.loop-i.i _ _ c.loop-i.invariant c.loop-i-test.false
