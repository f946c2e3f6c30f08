use Rattle.timers.proofs.Basics.{table_in}
use Rattle.timers.proofs.Calls.{tick_meets}
use Rattle.timers.proofs.timers.Timers.tick.Goals as goal

pub returns : goal.returns
returns c = rw (← c.self.view_is) (tick_meets (table_in c.self.inside) _ c.self.invariant.whole (λ i. record { counts = c.self.inside.counts; left = c.tick.ensures i })).view
