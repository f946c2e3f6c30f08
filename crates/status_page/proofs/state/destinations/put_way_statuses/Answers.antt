-- The pieces come one after the other.
use Rattle.status_page.proofs.Adding.{behind, one}
use Rattle.status_page.proofs.state.destinations.put_way_statuses.Goals as goal

pub returns : goal.returns
returns c =
    behind c.end_array.result c.args.out.now c.key.new.self c.end_array.new.self _ _ (one _ _ _ _ c.in_ok-key.ensures)
    (behind c.end_array.result c.key.new.self c.begin_array.new.self c.end_array.new.self _ _ (one _ _ _ _ c.in_ok-begin_array.ensures)
    (behind c.end_array.result c.begin_array.new.self c.put_each_status.new.out c.end_array.new.self _ _ c.in_ok-put_each_status.ensures
    (one c.end_array.result c.put_each_status.new.out c.end_array.new.self _ c.end_array.ensures)))
