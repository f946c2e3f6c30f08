-- The pieces come one after the other.
use Rattle.status_page.proofs.Adding.{behind, one}
use Rattle.status_page.proofs.state.notices.put_kinds.Goals as goal

pub returns : goal.returns
returns c =
    behind c.end_object.result c.args.out.now c.key.new.self c.end_object.new.self _ _ (one _ _ _ _ c.in_ok-key.ensures)
    (behind c.end_object.result c.key.new.self c.begin_object.new.self c.end_object.new.self _ _ (one _ _ _ _ c.in_ok-begin_object.ensures)
    (behind c.end_object.result c.begin_object.new.self c.put_each_kind.new.out c.end_object.new.self _ _ c.in_ok-put_each_kind.ensures
    (one c.end_object.result c.put_each_kind.new.out c.end_object.new.self _ c.end_object.ensures)))
