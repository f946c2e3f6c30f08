use Rattle.settings_file.proofs.Basics.{refl, inl, inr, err_from_is_err_and}
use Rattle.settings_file.proofs.Behind.{link-next, link-fault, link-all}
use Rattle.settings_file.proofs.Sources.{one-link}
use Rattle.settings_file.proofs.serve.endpoints.each_endpoint.Goals as goal

pub loop-i-init : goal.loop-i-init
loop-i-init c = rw c.in_ok-endpoints.ensures.items (λ s. refl, refl)

pub loop-i-preserved : goal.loop-i-preserved
loop-i-preserved c = (
  λ s.
      let said = rw c.as_slice.ensures.value at (c.in_ok-endpoint.ensures.value s) in
      link-next s c.args.own c.args.is_fourth c.args.values.now c.loop-i.i _ _ (c.loop-i.invariant.0 s)
      c.index-values-i.result _ _ c.loop-i-test.true c.index-values-i.is said c.in_ok-push.ensures.items,
  rw c.in_ok-push.ensures.items (one-link c.args.own.udp c.loop-i.endpoints.items c.in_ok-endpoint.endpoint c.loop-i.invariant.1 c.in_ok-endpoint.ensures.source),
)

pub returns-in_err-endpoint-clause-value : goal.returns-in_err-endpoint-clause-value
returns-in_err-endpoint-clause-value c =
    let p = err_from_is_err_and c.from_residual-in_err-endpoint.result c.from_residual-in_err-endpoint.ensures.1 in
    rw (p.1, p.2) (λ s.
    let said = rw c.as_slice.ensures.value at (c.in_err-endpoint.ensures.value s) in
    inr (link-fault s c.args.own c.args.is_fourth c.args.values.now c.loop-i.i _ _ (c.loop-i.invariant.0 s)
    c.index-values-i.result _ c.loop-i-test.true c.index-values-i.is said))

pub returns-in_err-push-clause-value : goal.returns-in_err-push-clause-value
returns-in_err-push-clause-value c =
    let p = err_from_is_err_and c.from_residual-in_err-push.result c.from_residual-in_err-push.ensures.1 in
    rw p.1 (λ s. inl p.2)

pub returns-in_err-endpoints-clause-value : goal.returns-in_err-endpoints-clause-value
returns-in_err-endpoints-clause-value c =
    let p = err_from_is_err_and c.from_residual.result c.from_residual.ensures.1 in
    rw p.1 (λ s. inl p.2)

pub returns-clause-value : goal.returns-clause-value
returns-clause-value c = λ s. link-all s c.args.own c.args.is_fourth c.args.values.now c.loop-i.i _ _ (c.loop-i.invariant.0 s) c.loop-i-test.false

pub returns-clause-source : goal.returns-clause-source
returns-clause-source c = c.loop-i.invariant.1
