use Rattle.settings_file.proofs.Basics.{inl, map-append, err_from_is_err_and, view, title_written, title_in}
use Rattle.settings_file.proofs.Each.{after-none, read-next, read-fault_or, read-all}
use Rattle.settings_file.proofs.arrays.each_title.Goals as goal

pub loop-i-init : goal.loop-i-init
loop-i-init c = rw c.in_ok-titles.ensures.items (after-none _)

pub loop-i-preserved : goal.loop-i-preserved
loop-i-preserved c =
    read-next view (title_in c.args.has_extensions c.args.has_texts) c.args.values.now c.loop-i.i _ _ c.loop-i.invariant
    c.index-values-i.result _ _ c.loop-i-test.true c.index-values-i.is c.in_ok-title.ensures (rw c.in_ok-push.ensures.items (map-append title_written _ _))

pub returns-in_err-title : goal.returns-in_err-title
returns-in_err-title c =
    let p = err_from_is_err_and c.from_residual-in_err-title.result c.from_residual-in_err-title.ensures.1 in
    rw (p.1, p.2) (read-fault_or view (title_in c.args.has_extensions c.args.has_texts) c.args.values.now c.loop-i.i _ _ c.loop-i.invariant
    c.index-values-i.result _ c.loop-i-test.true c.index-values-i.is c.in_err-title.ensures)

pub returns-in_err-push : goal.returns-in_err-push
returns-in_err-push c =
    let p = err_from_is_err_and c.from_residual-in_err-push.result c.from_residual-in_err-push.ensures.1 in
    rw p.1 (inl p.2)

pub returns-in_err-titles : goal.returns-in_err-titles
returns-in_err-titles c =
    let p = err_from_is_err_and c.from_residual.result c.from_residual.ensures.1 in
    rw p.1 (inl p.2)

pub returns : goal.returns
returns c = read-all view (title_in c.args.has_extensions c.args.has_texts) c.args.values.now c.loop-i.i _ _ c.loop-i.invariant c.loop-i-test.false
