use Rattle.timers.proofs.Basics.{one_map}
use Rattle.timers.proofs.laws.what_is_left_says_all.Goals as goal

pub returns : goal.returns
returns c = one_map
