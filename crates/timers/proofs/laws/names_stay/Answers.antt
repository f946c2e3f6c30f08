use Rattle.timers.proofs.Basics.{refl}
use Rattle.timers.proofs.Maps.{counts-set, counts-clear, counts-clear_set}
use Rattle.timers.proofs.Dues.{counts-after}
use Rattle.timers.proofs.laws.names_stay.Goals as goal

pub returns : goal.returns
returns c = record {
  set = counts-set;
  cleared = counts-clear;
  set_cleared = counts-clear_set;
  ticked = λ r. refl;
  taken = counts-after;
}
