-- One timer runs, and one fewer is left.
use Rattle.std.proofs.Common.{◌∙◌}
use Rattle.exchange.proofs.Ticking.{one_fewer}
use Rattle.exchange.proofs.exchange.Exchange.run_all.Goals as goal

pub loop-preserved : goal.loop-preserved
loop-preserved c = rw c.run_next.ensures (one_fewer c.loop.self _ _ c.loop-test.true ∙ c.loop.invariant)
