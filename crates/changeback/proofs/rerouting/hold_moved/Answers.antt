-- One more flow is looked at.
use Rattle.changeback.proofs.Basics.{◌≡◌, ◌∙◌, ℕ, List, ap, sym, arith, length, slice_index_or, Option, None, nat_lt, get_or_default, chosen_link, facts_of, is_other_link, held_for}
use Rattle.changeback.proofs.Rerouted.{none_moved, held_more, moved_more}
use Rattle.changeback.proofs.rerouting.hold_moved.Goals as goal

pub loop-selection-init : goal.loop-selection-init
loop-selection-init c = record {
  holds = ap (λ (xs : List ℕ). held_for c.args.destination xs c.args.holds.now) (sym (none_moved c.args.before.now (facts_of c.args.links.now) c.args.destination));
  moved = ap (λ (xs : List ℕ). nat_lt 0 (length xs)) (sym (none_moved c.args.before.now (facts_of c.args.links.now) c.args.destination));
}

pub loop-selection-preserved : goal.loop-selection-preserved
loop-selection-preserved c =
    let is : c.hold_if_moved-moved.result
    ≡ is_other_link (slice_index_or c.args.before.now c.loop-selection.selection None) (chosen_link (facts_of c.args.links.now) c.args.destination c.loop-selection.selection) =
    c.hold_if_moved-moved.ensures.moved
    ∙ ap (λ (former : Option ℕ). is_other_link former (chosen_link (facts_of c.args.links.now) c.args.destination c.loop-selection.selection))
    (ap (λ (i : ℕ). slice_index_or c.args.before.now i c.index-before-from.result) c.from.ensures
    ∙ get_or_default c.args.before.now c.loop-selection.selection c.index-before-from.result None (omega (arith, c.loop-selection-test.true, c.type_inv.before))) in
    record {
      holds = held_more c.args.before.now (facts_of c.args.links.now) c.args.destination c.loop-selection.selection c.hold_if_moved-moved.result c.args.holds.now c.loop-selection.holds c.hold_if_moved-moved.new.holds
          is c.loop-selection.invariant.holds c.hold_if_moved-moved.ensures.holds;
      moved = moved_more c.args.before.now (facts_of c.args.links.now) c.args.destination c.loop-selection.selection c.loop-selection.moved c.hold_if_moved-moved.result
          is c.loop-selection.invariant.moved;
    }
