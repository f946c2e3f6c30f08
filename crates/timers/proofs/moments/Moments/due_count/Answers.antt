use Rattle.timers.proofs.Basics.{length, sym, ap, subst, ◌∙◌, filter, no_tick_left, count_below, AreBounded}
use Rattle.timers.proofs.InMoments.{bounded, left-counted}
use Rattle.timers.proofs.moments.Moments.due_count.Goals as goal

pub count_below-requires-clause-bounded : goal.count_below-requires-clause-bounded
count_below-requires-clause-bounded c =
    let s = c.self.inside in
    subst (AreBounded s.levels 1) (sym c.deref.ensures.value) (bounded s.clock s.places s.levels s.leaves s.nodes.items c.self.invariant.tree)

pub returns : goal.returns
returns c =
    let s = c.self.inside in
    c.count_below.ensures.count
    ∙ ap (λ xs. count_below s.clock xs s.levels 1) c.deref.ensures.value
    ∙ left-counted s.clock s.places s.levels s.leaves s.nodes.items c.self.invariant.tree
    ∙ ap (λ xs. length (filter no_tick_left xs)) c.self.view_is
