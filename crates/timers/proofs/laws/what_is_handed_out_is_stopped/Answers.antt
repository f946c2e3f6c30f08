use Rattle.timers.proofs.Dues.{after-clear, after-none}
use Rattle.timers.proofs.laws.what_is_handed_out_is_stopped.Goals as goal

pub returns : goal.returns
returns c = record { stopped = after-clear; none = after-none }
