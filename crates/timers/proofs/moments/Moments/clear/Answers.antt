-- The leaf is written, and the nodes above it stay.
use Rattle.timers.proofs.Basics.{length, slice_set, refl, sym, ap, subst, ◌∙◌, arith, None, with_items_is, never, IsBounded}
use Rattle.timers.proofs.InMoments.{length-left}
use Rattle.timers.proofs.Ticking.{put_leaves}
use Rattle.timers.proofs.moments.Moments.clear.Goals as goal

pub clear_leaf-requires-clause-size : goal.clear_leaf-requires-clause-size
clear_leaf-requires-clause-size c = ap length c.deref_mut.ensures.value ∙ c.self.invariant.tree.size

pub clear_leaf-requires-clause-place : goal.clear_leaf-requires-clause-place
clear_leaf-requires-clause-place c =
    let s = c.self.inside in
    omega (arith, c.requires, ap length c.self.view_is, length-left s.clock s.places s.levels s.leaves s.nodes.items c.self.invariant.tree, c.self.invariant.tree.room)

pub clear_leaf-requires-clause-bounded : goal.clear_leaf-requires-clause-bounded
clear_leaf-requires-clause-bounded c = subst (IsBounded c.self.inside.leaves) (sym c.deref_mut.ensures.value) c.self.invariant.tree.bounded

pub invariant_of-self : goal.invariant_of-self
invariant_of-self c =
    let s = c.self.inside in
    record {
      tree = (put_leaves s.clock s.places s.levels s.leaves c.args.place never None s.nodes.items c.deref_mut.result.now c.clear_leaf.new.nodes _
          c.self.invariant.tree c.deref_mut.ensures.value (omega (arith, c.requires, ap length c.self.view_is)) refl c.clear_leaf.ensures.size c.clear_leaf.ensures.bounded c.clear_leaf.ensures.leaves
          (with_items_is s.nodes c.clear_leaf.new.nodes (c.clear_leaf.ensures.size ∙ c.deref_mut.ensures.len))).tree;
      few = c.self.invariant.few;
    }

pub returns : goal.returns
returns c =
    let s = c.self.inside in
    (put_leaves s.clock s.places s.levels s.leaves c.args.place never None s.nodes.items c.deref_mut.result.now c.clear_leaf.new.nodes _
    c.self.invariant.tree c.deref_mut.ensures.value (omega (arith, c.requires, ap length c.self.view_is)) refl c.clear_leaf.ensures.size c.clear_leaf.ensures.bounded c.clear_leaf.ensures.leaves
    (with_items_is s.nodes c.clear_leaf.new.nodes (c.clear_leaf.ensures.size ∙ c.deref_mut.ensures.len))).view
    ∙ ap (λ xs. slice_set xs c.args.place None) c.self.view_is
