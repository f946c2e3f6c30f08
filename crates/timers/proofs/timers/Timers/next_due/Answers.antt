use Rattle.timers.proofs.Basics.{refl, sym, ap, ◌∙◌, Some, None, name_at, table_in}
use Rattle.timers.proofs.Calls.{due_named, due_meets}
use Rattle.timers.proofs.timers.Timers.next_due.Goals as goal

pub returns-in-Some-clause-name : goal.returns-in-Some-clause-name
returns-in-Some-clause-name c =
    rw (← c.self.view_is) (ap (λ name. Some name) (c.name_at.ensures ∙ ap (λ n. name_at n c.in-Some.place) c.named_sets.ensures.value) ∙ due_named (Some c.in-Some.place) (table_in c.self.inside) c.self.invariant.whole (sym c.in-Some.is ∙ c.first_due.ensures.place))

pub returns-in-Some-clause-timers : goal.returns-in-Some-clause-timers
returns-in-Some-clause-timers c =
    rw (← c.self.view_is) (due_meets (Some c.in-Some.place) (table_in c.self.inside) _ c.self.invariant.whole (sym c.in-Some.is ∙ c.first_due.ensures.place) (λ i. record { counts = c.self.inside.counts; left = c.take.ensures i })).view

pub returns-in-None-clause-name : goal.returns-in-None-clause-name
returns-in-None-clause-name c = rw (← c.self.view_is) (due_named None (table_in c.self.inside) c.self.invariant.whole (sym c.in-None.is ∙ c.first_due.ensures.place))

pub returns-in-None-clause-timers : goal.returns-in-None-clause-timers
returns-in-None-clause-timers c = rw (← c.self.view_is) (due_meets None (table_in c.self.inside) (table_in c.self.inside) c.self.invariant.whole (sym c.in-None.is ∙ c.first_due.ensures.place) refl).view
