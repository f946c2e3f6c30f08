-- The pieces come one after the other.
use Rattle.status_page.proofs.Adding.{behind, one}
use Rattle.status_page.proofs.link_state.put_shown.Goals as goal

pub returns : goal.returns
returns c =
    rw (← c.is_barred.ensures.kept_barred, ← c.settings.ensures.kept_settings, ← c.is_changing_over.ensures, ← c.counters_of.ensures, ← c.seen_of.ensures)
    (behind c.end_object.result c.args.out.now c.begin_object.new.self c.end_object.new.self _ _ (one _ _ _ _ c.in_ok-begin_object.ensures)
    (behind c.end_object.result c.begin_object.new.self c.put_names.new.out c.end_object.new.self _ _ c.in_ok-put_names.ensures
    (behind c.end_object.result c.put_names.new.out c.put_view.new.out c.end_object.new.self _ _ c.in_ok-put_view.ensures
    (behind c.end_object.result c.put_view.new.out c.put_bool.new.out c.end_object.new.self _ _ c.in_ok-put_bool.ensures
    (behind c.end_object.result c.put_bool.new.out c.put_bool-2.new.out c.end_object.new.self _ _ c.in_ok-put_bool-2.ensures
    (behind c.end_object.result c.put_bool-2.new.out c.put_seen.new.out c.end_object.new.self _ _ c.in_ok-put_seen.ensures
    (behind c.end_object.result c.put_seen.new.out c.put_counters.new.out c.end_object.new.self _ _ c.in_ok-put_counters.ensures
    (one c.end_object.result c.put_counters.new.out c.end_object.new.self _ c.end_object.ensures))))))))
