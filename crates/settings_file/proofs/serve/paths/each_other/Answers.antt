use Rattle.settings_file.proofs.Basics.{refl, sym, err_from_is_err_and}
use Rattle.settings_file.proofs.Filling.{other-next, other-fault, other-all}
use Rattle.settings_file.proofs.serve.paths.each_other.Goals as goal

pub loop-n-preserved : goal.loop-n-preserved
loop-n-preserved c = λ s.
    other-next s c.args.udp c.args.i c.args.first c.args.values.now c.loop-n.n _ _ (c.loop-n.invariant s)
    c.index-values-n.result _ _ c.loop-n-test.true c.index-values-n.is (c.in_ok-address.ensures s) refl

pub returns-in_err-address : goal.returns-in_err-address
returns-in_err-address c =
    let p = err_from_is_err_and c.from_residual.result c.from_residual.ensures.1 in
    rw (p.1, p.2) (λ s.
    sym (other-fault s c.args.udp c.args.i c.args.first c.args.values.now c.loop-n.n _ _ (c.loop-n.invariant s)
    c.index-values-n.result _ c.loop-n-test.true c.index-values-n.is (c.in_err-address.ensures s)))

pub returns : goal.returns
returns c = λ s.
    sym (other-all s c.args.udp c.args.i c.args.first c.args.values.now c.loop-n.n _ _ (c.loop-n.invariant s) c.loop-n-test.false)
