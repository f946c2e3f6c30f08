use Rattle.timers.proofs.Basics.{arith, one_shl, pow_below}
use Rattle.timers.proofs.moments.leaves_at.Goals as goal

pub returns-clause-fits : goal.returns-clause-fits
returns-clause-fits c = omega (arith, one_shl c.args.levels 64 (omega arith), pow_below c.args.levels 49 (omega arith))
