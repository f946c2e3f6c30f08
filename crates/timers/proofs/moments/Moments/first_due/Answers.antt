use Rattle.timers.proofs.Basics.{length, ap, sym, subst, ◌∙◌, arith, position, no_tick_left, first_below, AreBounded}
use Rattle.timers.proofs.InMoments.{length-left, bounded, leaf-found, none-found}
use Rattle.timers.proofs.moments.Moments.first_due.Goals as goal

pub first_below-requires-clause-bounded : goal.first_below-requires-clause-bounded
first_below-requires-clause-bounded c =
    let s = c.self.inside in
    subst (AreBounded s.levels 1) (sym c.deref.ensures.value) (bounded s.clock s.places s.levels s.leaves s.nodes.items c.self.invariant.tree)

pub overflow_sub-result : goal.overflow_sub-result
overflow_sub-result c =
    let s = c.self.inside in
    (leaf-found s.clock s.places s.levels s.leaves s.nodes.items c.self.invariant.tree c.in-Some.leaf (sym (ap (λ xs. first_below s.clock xs s.levels 1) c.deref.ensures.value) ∙ sym c.first_below.ensures ∙ c.in-Some.is)).low

pub returns-in-Some-clause-place : goal.returns-in-Some-clause-place
returns-in-Some-clause-place c =
    let s = c.self.inside in
    (leaf-found s.clock s.places s.levels s.leaves s.nodes.items c.self.invariant.tree c.in-Some.leaf (sym (ap (λ xs. first_below s.clock xs s.levels 1) c.deref.ensures.value) ∙ sym c.first_below.ensures ∙ c.in-Some.is)).first
    ∙ ap (position no_tick_left) c.self.view_is

pub returns-in-Some-clause-fits : goal.returns-in-Some-clause-fits
returns-in-Some-clause-fits c =
    let s = c.self.inside in
    let found = leaf-found s.clock s.places s.levels s.leaves s.nodes.items c.self.invariant.tree c.in-Some.leaf (sym (ap (λ xs. first_below s.clock xs s.levels 1) c.deref.ensures.value) ∙ sym c.first_below.ensures ∙ c.in-Some.is) in
    omega (arith, found.within, length-left s.clock s.places s.levels s.leaves s.nodes.items c.self.invariant.tree, ap length c.self.view_is)

pub returns-in-None-clause-place : goal.returns-in-None-clause-place
returns-in-None-clause-place c =
    let s = c.self.inside in
    none-found s.clock s.places s.levels s.leaves s.nodes.items c.self.invariant.tree (sym (ap (λ xs. first_below s.clock xs s.levels 1) c.deref.ensures.value) ∙ sym c.first_below.ensures ∙ c.in-None.is)
    ∙ ap (position no_tick_left) c.self.view_is
