-- What is asked for is read key by key.
use Rattle.settings_file.proofs.Basics.{refl, err_from_is_err_and}
use Rattle.settings_file.specs.Document.{services_at}
use Rattle.settings_file.proofs.document.asked_services.Goals as goal

pub returns-in_err-truth-5 : goal.returns-in_err-truth-5
unfolding services_at
returns-in_err-truth-5 c =
    let p = err_from_is_err_and c.from_residual-in_err-truth-5.result c.from_residual-in_err-truth-5.ensures.1 in
    rw (
      p.1,
      p.2,
      ← c.truth.ensures,
      c.in_ok-truth.was,
      ← c.truth-2.ensures,
      c.in_ok-truth-2.was,
      ← c.truth-3.ensures,
      c.in_ok-truth-3.was,
      ← c.truth-4.ensures,
      c.in_ok-truth-4.was,
      ← c.truth-5.ensures,
      c.in_err-truth-5.was,
    ) refl

pub returns-in_err-truth-6 : goal.returns-in_err-truth-6
unfolding services_at
returns-in_err-truth-6 c =
    let p = err_from_is_err_and c.from_residual-in_err-truth-6.result c.from_residual-in_err-truth-6.ensures.1 in
    rw (
      p.1,
      p.2,
      ← c.truth.ensures,
      c.in_ok-truth.was,
      ← c.truth-2.ensures,
      c.in_ok-truth-2.was,
      ← c.truth-3.ensures,
      c.in_ok-truth-3.was,
      ← c.truth-4.ensures,
      c.in_ok-truth-4.was,
      ← c.truth-5.ensures,
      c.in_ok-truth-5.was,
      ← c.truth-6.ensures,
      c.in_err-truth-6.was,
    ) refl

pub returns : goal.returns
unfolding services_at
returns c =
    rw (
      ← c.truth.ensures,
      c.in_ok-truth.was,
      ← c.truth-2.ensures,
      c.in_ok-truth-2.was,
      ← c.truth-3.ensures,
      c.in_ok-truth-3.was,
      ← c.truth-4.ensures,
      c.in_ok-truth-4.was,
      ← c.truth-5.ensures,
      c.in_ok-truth-5.was,
      ← c.truth-6.ensures,
      c.in_ok-truth-6.was,
    ) refl
