use Rattle.timers.proofs.Basics.{refl, slice_set, sym, ap, ◌∙◌, Some, None, table_in}
use Rattle.timers.proofs.Calls.{place_fits, set_meets}
use Rattle.timers.proofs.timers.Timers.set.Goals as goal

pub put-requires : goal.put-requires
put-requires c = place_fits c.in-Some.place c.args.name (table_in c.self.inside) c.self.invariant.whole (sym c.in-Some.is ∙ c.place_of.ensures.place)

pub returns-in-Some : goal.returns-in-Some
returns-in-Some c =
    let left = c.put.ensures ∙ ap (λ ticks. slice_set c.self.inside.left c.in-Some.place (Some ticks)) c.at_least_one.ensures in
    rw (← c.self.view_is) (set_meets (Some c.in-Some.place) c.args.name c.args.ticks (table_in c.self.inside) _ c.self.invariant.whole c.place_of.ensures.named (sym c.in-Some.is ∙ c.place_of.ensures.place) (λ i. record { counts = c.self.inside.counts; left = left i })).view

pub returns-in_default : goal.returns-in_default
returns-in_default c = rw (← c.self.view_is) (set_meets None c.args.name c.args.ticks (table_in c.self.inside) (table_in c.self.inside) c.self.invariant.whole c.place_of.ensures.named (sym c.in_default.is ∙ c.place_of.ensures.place) refl).view
