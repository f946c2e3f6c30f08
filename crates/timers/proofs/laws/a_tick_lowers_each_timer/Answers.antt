use Rattle.timers.proofs.Maps.{left-ticked}
use Rattle.timers.proofs.laws.a_tick_lowers_each_timer.Goals as goal

pub returns : goal.returns
returns c = left-ticked
