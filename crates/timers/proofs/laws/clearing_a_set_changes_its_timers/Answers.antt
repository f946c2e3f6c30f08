use Rattle.timers.proofs.Maps.{left-clear_t8, left-clear_t10, left-clear_set_other}
use Rattle.timers.proofs.laws.clearing_a_set_changes_its_timers.Goals as goal

pub returns : goal.returns
returns c = record { t8 = left-clear_t8; t10 = left-clear_t10; others = left-clear_set_other }
