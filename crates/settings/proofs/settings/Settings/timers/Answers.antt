use Rattle.settings.proofs.Basics.{subst, All, Configuration, TICKS, IsWithin, all_ticks}
use Rattle.settings.proofs.settings.Settings.timers.Goals as goal

pub returns-clause-ticks : goal.returns-clause-ticks
returns-clause-ticks c =
    subst (λ (k : Configuration). All (IsWithin 1 TICKS) (all_ticks k.timers)) c.self.view_is c.self.invariant.well.timers
