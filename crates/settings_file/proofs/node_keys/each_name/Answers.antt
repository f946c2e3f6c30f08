use Rattle.settings_file.proofs.Basics.{inl, string_bytes, map-append, err_from_is_err_and, view, name_in}
use Rattle.settings_file.proofs.Each.{after-none, read-next, read-fault_or, read-all}
use Rattle.settings_file.proofs.node_keys.each_name.Goals as goal

pub loop-i-init : goal.loop-i-init
loop-i-init c = rw c.in_ok-names.ensures.items (after-none _)

pub loop-i-preserved : goal.loop-i-preserved
loop-i-preserved c =
    read-next view (λ _. name_in c.args.has_longer c.args.key) c.args.values.now c.loop-i.i _ _ c.loop-i.invariant
    c.index-values-i.result _ _ c.loop-i-test.true c.index-values-i.is c.in_ok-name.ensures (rw c.in_ok-push.ensures.items (map-append (λ name. string_bytes name) _ _))

pub returns-in_err-name : goal.returns-in_err-name
returns-in_err-name c =
    let p = err_from_is_err_and c.from_residual-in_err-name.result c.from_residual-in_err-name.ensures.1 in
    rw (p.1, p.2) (read-fault_or view (λ _. name_in c.args.has_longer c.args.key) c.args.values.now c.loop-i.i _ _ c.loop-i.invariant
    c.index-values-i.result _ c.loop-i-test.true c.index-values-i.is c.in_err-name.ensures)

pub returns-in_err-push : goal.returns-in_err-push
returns-in_err-push c =
    let p = err_from_is_err_and c.from_residual-in_err-push.result c.from_residual-in_err-push.ensures.1 in
    rw p.1 (inl p.2)

pub returns-in_err-names : goal.returns-in_err-names
returns-in_err-names c =
    let p = err_from_is_err_and c.from_residual.result c.from_residual.ensures.1 in
    rw p.1 (inl p.2)

pub returns : goal.returns
returns c = read-all view (λ _. name_in c.args.has_longer c.args.key) c.args.values.now c.loop-i.i _ _ c.loop-i.invariant c.loop-i-test.false
