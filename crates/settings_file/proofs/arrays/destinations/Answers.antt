use Rattle.settings_file.proofs.Basics.{inr, refl, err_from_is_err_and, destinations_at}
use Rattle.settings_file.proofs.arrays.destinations.Goals as goal

pub returns-in_err-values : goal.returns-in_err-values
unfolding destinations_at
returns-in_err-values c =
    let p = err_from_is_err_and c.from_residual.result c.from_residual.ensures.1 in
    rw (p.1, p.2) (inr (rw c.in_err-values.ensures refl))

pub returns : goal.returns
unfolding destinations_at
returns c = rw c.in_ok-values.ensures c.each_destination.ensures
