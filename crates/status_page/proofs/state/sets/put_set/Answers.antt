-- The pieces come one after the other.
use Rattle.status_page.proofs.Adding.{behind, one}
use Rattle.status_page.proofs.state.sets.put_set.Goals as goal

pub returns : goal.returns
returns c =
    rw (← c.name.ensures.value, ← c.adjacent.ensures, ← c.point_text.ensures, ← c.as_str.ensures.value)
    (behind c.end_object.result c.args.out.now c.begin_object.new.self c.end_object.new.self _ _ (one _ _ _ _ c.in_ok-begin_object.ensures)
    (behind c.end_object.result c.begin_object.new.self c.put_text.new.out c.end_object.new.self _ _ c.in_ok-put_text.ensures
    (behind c.end_object.result c.put_text.new.out c.put_text-2.new.out c.end_object.new.self _ _ c.in_ok-put_text-2.ensures
    (one c.end_object.result c.put_text-2.new.out c.end_object.new.self _ c.end_object.ensures))))
