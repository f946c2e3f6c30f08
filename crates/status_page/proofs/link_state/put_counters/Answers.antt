-- The pieces come one after the other.
use Rattle.status_page.specs.States.{all_counters}
use Rattle.status_page.proofs.Adding.{behind}
use Rattle.status_page.proofs.link_state.put_counters.Goals as goal

pub returns : goal.returns
unfolding all_counters
returns c =
    behind c.put_object-4.result c.args.out.now c.put_each.new.out c.put_object-4.new.out _ _ c.in_ok-put_each.ensures
    (behind c.put_object-4.result c.put_each.new.out c.put_object.new.out c.put_object-4.new.out _ _ c.in_ok-put_object.ensures
    (behind c.put_object-4.result c.put_object.new.out c.put_object-2.new.out c.put_object-4.new.out _ _ c.in_ok-put_object-2.ensures
    (behind c.put_object-4.result c.put_object-2.new.out c.put_object-3.new.out c.put_object-4.new.out _ _ c.in_ok-put_object-3.ensures
    (c.put_object-4.ensures))))
