use Rattle.settings_file.proofs.Basics.{SFits, w64, inl, inr, sym, rules, to_z-of_z, err_from_is_err_and, view, integer_in}
use Rattle.settings_file.proofs.Each.{after-none, read-next, read-fault, read-all}
use Rattle.settings_file.specs.declared.fault.SettingsFault.TheVariants.{Kind}
use Rattle.settings_file.proofs.node_keys.each_integer.Goals as goal

pub loop-i-init : goal.loop-i-init
loop-i-init c = rw c.in_ok-integers.ensures.items (after-none _)

pub loop-i-preserved : goal.loop-i-preserved
loop-i-preserved c =
    let fits : SFits w64 c.in_ok-integer.integer = search rules in
    let grown = rw (to_z-of_z _ _ fits) at c.in_ok-push.ensures.items in
    read-next view (λ _. integer_in (Kind c.args.key)) c.args.values.now c.loop-i.i _ _ c.loop-i.invariant
    c.index-values-i.result _ _ c.loop-i-test.true c.index-values-i.is (sym c.in_ok-integer.ensures) grown

pub returns-in_err-integer : goal.returns-in_err-integer
returns-in_err-integer c =
    let p = err_from_is_err_and c.from_residual-in_err-integer.result c.from_residual-in_err-integer.ensures.1 in
    rw (p.1, p.2) (inr (read-fault view (λ _. integer_in (Kind c.args.key)) c.args.values.now c.loop-i.i _ _ c.loop-i.invariant
    c.index-values-i.result _ c.loop-i-test.true c.index-values-i.is (sym c.in_err-integer.ensures)))

pub returns-in_err-push : goal.returns-in_err-push
returns-in_err-push c =
    let p = err_from_is_err_and c.from_residual-in_err-push.result c.from_residual-in_err-push.ensures.1 in
    rw p.1 (inl p.2)

pub returns-in_err-integers : goal.returns-in_err-integers
returns-in_err-integers c =
    let p = err_from_is_err_and c.from_residual.result c.from_residual.ensures.1 in
    rw p.1 (inl p.2)

pub returns : goal.returns
returns c = read-all view (λ _. integer_in (Kind c.args.key)) c.args.values.now c.loop-i.i _ _ c.loop-i.invariant c.loop-i-test.false
