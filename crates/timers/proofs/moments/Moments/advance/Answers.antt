use Rattle.timers.proofs.Basics.{map, ap, ◌∙◌, arith, with_items_is, one_less}
use Rattle.timers.proofs.Ticking.{tick_leaves, rebase_leaves, rebase_size}
use Rattle.timers.proofs.moments.Moments.advance.Goals as goal

pub invariant_of-self-else-self-lt-LAST : goal.invariant_of-self-else-self-lt-LAST
invariant_of-self-else-self-lt-LAST c =
    let s = c.self.inside in
    record { tree = (rebase_leaves s.clock s.places s.levels s.leaves s.nodes.items c.deref_mut.result.now c.rebase.new.nodes _ c.self.invariant.tree c.deref_mut.ensures.value c.rebase.ensures (with_items_is s.nodes c.rebase.new.nodes (rebase_size s.clock c.deref_mut.result.now c.rebase.new.nodes c.rebase.ensures ∙ c.deref_mut.ensures.len))).tree; few = c.self.invariant.few }

pub returns-then-self-lt-LAST : goal.returns-then-self-lt-LAST
returns-then-self-lt-LAST c =
    let s = c.self.inside in
    (tick_leaves s.clock s.places s.levels s.leaves s.nodes.items c.self.invariant.tree (omega arith)).view ∙ ap (map one_less) c.self.view_is

pub returns-else-self-lt-LAST : goal.returns-else-self-lt-LAST
returns-else-self-lt-LAST c =
    let s = c.self.inside in
    (rebase_leaves s.clock s.places s.levels s.leaves s.nodes.items c.deref_mut.result.now c.rebase.new.nodes _ c.self.invariant.tree c.deref_mut.ensures.value c.rebase.ensures (with_items_is s.nodes c.rebase.new.nodes (rebase_size s.clock c.deref_mut.result.now c.rebase.new.nodes c.rebase.ensures ∙ c.deref_mut.ensures.len))).view ∙ ap (map one_less) c.self.view_is
