-- Nodes above the leaves are mended, and the leaves stay.
use Rattle.timers.proofs.Basics.{length, sym, ap, subst, ◌∙◌, with_items_is, IsBounded}
use Rattle.timers.proofs.Ticking.{mend_leaves}
use Rattle.timers.proofs.moments.Moments.mend.Goals as goal

pub refresh-requires-clause-size : goal.refresh-requires-clause-size
refresh-requires-clause-size c = ap length c.deref_mut.ensures.value ∙ c.self.invariant.tree.size

pub refresh-requires-clause-bounded : goal.refresh-requires-clause-bounded
refresh-requires-clause-bounded c = subst (IsBounded c.self.inside.leaves) (sym c.deref_mut.ensures.value) c.self.invariant.tree.bounded

pub invariant_of-self : goal.invariant_of-self
invariant_of-self c =
    let s = c.self.inside in
    record {
      tree = (mend_leaves s.clock s.places s.levels s.leaves s.nodes.items c.deref_mut.result.now c.refresh.new.nodes _
          c.self.invariant.tree c.deref_mut.ensures.value c.refresh.ensures.size c.refresh.ensures.bounded c.refresh.ensures.leaves
          (with_items_is s.nodes c.refresh.new.nodes (c.refresh.ensures.size ∙ c.deref_mut.ensures.len))).tree;
      few = c.self.invariant.few;
    }

pub returns : goal.returns
returns c =
    let s = c.self.inside in
    (mend_leaves s.clock s.places s.levels s.leaves s.nodes.items c.deref_mut.result.now c.refresh.new.nodes _
    c.self.invariant.tree c.deref_mut.ensures.value c.refresh.ensures.size c.refresh.ensures.bounded c.refresh.ensures.leaves
    (with_items_is s.nodes c.refresh.new.nodes (c.refresh.ensures.size ∙ c.deref_mut.ensures.len))).view
    ∙ c.self.view_is
