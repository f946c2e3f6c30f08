-- The leaf is written, and the nodes above it lowered.
use Rattle.timers.proofs.Basics.{length, slice_set, sym, ap, subst, ◌∙◌, arith, Some, with_items_is, IsBounded}
use Rattle.timers.proofs.InMoments.{length-left}
use Rattle.timers.proofs.Ticking.{put_leaves}
use Rattle.timers.proofs.moments.Moments.put.Goals as goal

pub set_leaf-requires-clause-size : goal.set_leaf-requires-clause-size
set_leaf-requires-clause-size c = ap length c.deref_mut.ensures.value ∙ c.self.invariant.tree.size

pub set_leaf-requires-clause-place : goal.set_leaf-requires-clause-place
set_leaf-requires-clause-place c =
    let s = c.self.inside in
    omega (arith, c.requires, ap length c.self.view_is, length-left s.clock s.places s.levels s.leaves s.nodes.items c.self.invariant.tree, c.self.invariant.tree.room)

pub set_leaf-requires-clause-bounded : goal.set_leaf-requires-clause-bounded
set_leaf-requires-clause-bounded c = subst (IsBounded c.self.inside.leaves) (sym c.deref_mut.ensures.value) c.self.invariant.tree.bounded

pub invariant_of-self : goal.invariant_of-self
invariant_of-self c =
    let s = c.self.inside in
    record {
      tree = (put_leaves s.clock s.places s.levels s.leaves c.args.place c.moment_of-moment.result (Some c.args.left) s.nodes.items c.deref_mut.result.now c.set_leaf.new.nodes _
          c.self.invariant.tree c.deref_mut.ensures.value (omega (arith, c.requires, ap length c.self.view_is)) c.moment_of-moment.ensures c.set_leaf.ensures.size c.set_leaf.ensures.bounded c.set_leaf.ensures.leaves
          (with_items_is s.nodes c.set_leaf.new.nodes (c.set_leaf.ensures.size ∙ c.deref_mut.ensures.len))).tree;
      few = c.self.invariant.few;
    }

pub returns : goal.returns
returns c =
    let s = c.self.inside in
    (put_leaves s.clock s.places s.levels s.leaves c.args.place c.moment_of-moment.result (Some c.args.left) s.nodes.items c.deref_mut.result.now c.set_leaf.new.nodes _
    c.self.invariant.tree c.deref_mut.ensures.value (omega (arith, c.requires, ap length c.self.view_is)) c.moment_of-moment.ensures c.set_leaf.ensures.size c.set_leaf.ensures.bounded c.set_leaf.ensures.leaves
    (with_items_is s.nodes c.set_leaf.new.nodes (c.set_leaf.ensures.size ∙ c.deref_mut.ensures.len))).view
    ∙ ap (λ xs. slice_set xs c.args.place (Some c.args.left)) c.self.view_is
