-- The pieces come one after the other.
use Rattle.std.proofs.Common.{◌≡◌, rules}
use Rattle.status_page.proofs.Adding.{behind, both, one}
use Rattle.status_page.proofs.state.destinations.put_shown_route.Goals as goal

pub returns : goal.returns
returns c =
    let taken : c.deref.result.now ≡ c.args.view.now.sets.items = search rules in
    rw (← c.point_text.ensures, ← c.as_str.ensures.value, ← taken, ← c.name.ensures)
    (behind c.end_object.result c.args.out.now c.begin_object.new.self c.end_object.new.self _ _ (one _ _ _ _ c.in_ok-begin_object.ensures)
    (behind c.end_object.result c.begin_object.new.self c.put_text-2.new.out c.end_object.new.self _ _
    (both c.begin_object.new.self c.put_way_statuses.new.out c.put_text-2.new.out _ _
    (both c.begin_object.new.self c.put_set_names-2.new.out c.put_way_statuses.new.out _ _
    (both c.begin_object.new.self c.put_set_names.new.out c.put_set_names-2.new.out _ _
    (both c.begin_object.new.self c.put_text.new.out c.put_set_names.new.out _ _ c.in_ok-put_text.ensures c.in_ok-put_set_names.ensures)
    c.in_ok-put_set_names-2.ensures) c.in_ok-put_way_statuses.ensures) c.in_ok-put_text-2.ensures)
    (one c.end_object.result c.put_text-2.new.out c.end_object.new.self _ c.end_object.ensures)))
