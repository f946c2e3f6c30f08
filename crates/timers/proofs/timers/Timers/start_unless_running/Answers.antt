use Rattle.timers.proofs.Basics.{refl, slice_set, cond, get_or, sym, ap, ◌∙◌, Some, None, is_some, table_in}
use Rattle.timers.proofs.Calls.{place_fits, started, start_meets}
use Rattle.timers.proofs.timers.Timers.start_unless_running.Goals as goal

pub start-requires : goal.start-requires
start-requires c = place_fits c.in-Some.place c.args.name (table_in c.self.inside) c.self.invariant.whole (sym c.in-Some.is ∙ c.place_of.ensures.place)

pub returns-in-Some : goal.returns-in-Some
returns-in-Some c =
    let old = c.self.inside.left in
    let place = c.in-Some.place in
    let left = c.start.ensures ∙ ap (λ ticks. cond (is_some (get_or old place None)) old (slice_set old place (Some ticks))) c.at_least_one.ensures in
    rw (← c.self.view_is) (start_meets (Some place) c.args.name c.args.ticks (table_in c.self.inside) _ c.self.invariant.whole c.place_of.ensures.named (sym c.in-Some.is ∙ c.place_of.ensures.place) ((λ i. record { counts = c.self.inside.counts; left = left i }) ∙ started (is_some (get_or old place None)) (table_in c.self.inside) place _)).view

pub returns-in_default : goal.returns-in_default
returns-in_default c = rw (← c.self.view_is) (start_meets None c.args.name c.args.ticks (table_in c.self.inside) (table_in c.self.inside) c.self.invariant.whole c.place_of.ensures.named (sym c.in_default.is ∙ c.place_of.ensures.place) refl).view
