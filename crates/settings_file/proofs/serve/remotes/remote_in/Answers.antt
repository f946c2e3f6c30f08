use Rattle.settings_file.proofs.Basics.{refl, err_from_is_err_and}
use Rattle.settings_file.specs.Endpoints.{remote_in}
use Rattle.settings_file.proofs.serve.remotes.remote_in.Goals as goal

pub returns-in_err-apart-clause-value : goal.returns-in_err-apart-clause-value
unfolding remote_in
returns-in_err-apart-clause-value c = λ s.
    let p = err_from_is_err_and c.from_residual-in_err-apart.result c.from_residual-in_err-apart.ensures.1 in
    let told = rw (c.first_or.ensures, c.entries-entries.ensures) at (c.in_ok-told.ensures s) in
    let others = rw (c.behind_first.ensures, c.entries-entries.ensures) at (c.in_ok-others.ensures s) in
    rw (
      p.1,
      p.2,
      ← told,
      ← c.in_ok-address.ensures.value,
      ← others,
      ← c.in_ok-own_port.ensures,
      ← c.in_ok-far_port.ensures,
      ← c.in_ok-tries.ensures,
      ← c.in_ok-is_port_fixed.ensures,
      ← c.in_ok-addresses.ensures s,
      ← c.in_err-apart.ensures,
    ) refl

pub returns-clause-value : goal.returns-clause-value
unfolding remote_in
returns-clause-value c = λ s.
    let told = rw (c.first_or.ensures, c.entries-entries.ensures) at (c.in_ok-told.ensures s) in
    let others = rw (c.behind_first.ensures, c.entries-entries.ensures) at (c.in_ok-others.ensures s) in
    rw (
      ← told,
      ← c.in_ok-address.ensures.value,
      ← others,
      ← c.in_ok-own_port.ensures,
      ← c.in_ok-far_port.ensures,
      ← c.in_ok-tries.ensures,
      ← c.in_ok-is_port_fixed.ensures,
      ← c.in_ok-addresses.ensures s,
      ← c.in_ok-apart.ensures,
    ) refl
