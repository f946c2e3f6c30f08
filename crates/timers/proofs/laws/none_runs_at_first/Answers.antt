use Rattle.timers.proofs.Maps.{left-none}
use Rattle.timers.proofs.laws.none_runs_at_first.Goals as goal

pub returns-clause-none : goal.returns-clause-none
returns-clause-none c = left-none
