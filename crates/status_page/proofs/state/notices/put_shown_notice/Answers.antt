-- The pieces come one after the other.
use Rattle.status_page.proofs.Adding.{behind, one}
use Rattle.status_page.proofs.state.notices.put_shown_notice.Goals as goal

pub returns : goal.returns
returns c =
    behind c.end_object.result c.args.out.now c.begin_object.new.self c.end_object.new.self _ _ (one _ _ _ _ c.in_ok-begin_object.ensures)
    (behind c.end_object.result c.begin_object.new.self c.put_number.new.out c.end_object.new.self _ _ c.in_ok-put_number.ensures
    (behind c.end_object.result c.put_number.new.out c.put_number-2.new.out c.end_object.new.self _ _ c.in_ok-put_number-2.ensures
    (behind c.end_object.result c.put_number-2.new.out c.put_text.new.out c.end_object.new.self _ _ c.in_ok-put_text.ensures
    (one c.end_object.result c.put_text.new.out c.end_object.new.self _ c.end_object.ensures))))
