use Rattle.timers.proofs.Maps.{start-running, start-idle}
use Rattle.timers.proofs.laws.starting_leaves_what_runs.Goals as goal

pub returns : goal.returns
returns c = record { runs = start-running; idle = start-idle }
