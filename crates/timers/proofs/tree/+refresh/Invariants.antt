use Rattle.timers.proofs.Basics.{◌-◌}
use Rattle.timers.proofs.tree.+refresh.Given as goal

abbrev pub decreases-refresh : goal.decreases-refresh
decreases-refresh l = l.leaves - l.node
