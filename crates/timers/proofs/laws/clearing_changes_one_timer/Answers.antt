use Rattle.timers.proofs.Maps.{left-clear, left-clear_other}
use Rattle.timers.proofs.laws.clearing_changes_one_timer.Goals as goal

pub returns : goal.returns
returns c = record { cleared = left-clear; others = left-clear_other }
