use Rattle.timers.proofs.Basics.{refl, sym, ◌∙◌, Some, None, table_in}
use Rattle.timers.proofs.Calls.{place_fits, clear_meets}
use Rattle.timers.proofs.timers.Timers.clear.Goals as goal

pub clear-requires : goal.clear-requires
clear-requires c = place_fits c.in-Some.place c.args.name (table_in c.self.inside) c.self.invariant.whole (sym c.in-Some.is ∙ c.place_of.ensures.place)

pub returns-in-Some : goal.returns-in-Some
returns-in-Some c =
    rw (← c.self.view_is) (clear_meets (Some c.in-Some.place) c.args.name (table_in c.self.inside) _ c.self.invariant.whole (sym c.in-Some.is ∙ c.place_of.ensures.place) (λ i. record { counts = c.self.inside.counts; left = c.clear.ensures i })).view

pub returns-in_default : goal.returns-in_default
returns-in_default c = rw (← c.self.view_is) (clear_meets None c.args.name (table_in c.self.inside) (table_in c.self.inside) c.self.invariant.whole (sym c.in_default.is ∙ c.place_of.ensures.place) refl).view
