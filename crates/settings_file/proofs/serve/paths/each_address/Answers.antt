use Rattle.settings_file.proofs.Basics.{refl, sym, err_from_is_err_and}
use Rattle.settings_file.proofs.Filling.{address-next, address-fault, address-all}
use Rattle.settings_file.proofs.serve.paths.each_address.Goals as goal

pub loop-i-preserved : goal.loop-i-preserved
loop-i-preserved c = λ s.
    address-next s c.args.key c.args.values.now c.loop-i.i _ _ (c.loop-i.invariant s)
    c.index-values-i.result _ _ c.loop-i-test.true c.index-values-i.is (c.in_ok-address.ensures s) refl

pub returns-in_err-address : goal.returns-in_err-address
returns-in_err-address c =
    let p = err_from_is_err_and c.from_residual.result c.from_residual.ensures.1 in
    rw (p.1, p.2) (λ s.
    sym (address-fault s c.args.key c.args.values.now c.loop-i.i _ _ (c.loop-i.invariant s)
    c.index-values-i.result _ c.loop-i-test.true c.index-values-i.is (c.in_err-address.ensures s)))

pub returns : goal.returns
returns c = λ s.
    sym (address-all s c.args.key c.args.values.now c.loop-i.i _ _ (c.loop-i.invariant s) c.loop-i-test.false)
