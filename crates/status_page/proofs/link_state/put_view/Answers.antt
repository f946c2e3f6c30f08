-- The pieces come one after the other.
use Rattle.status_page.proofs.Adding.{behind}
use Rattle.status_page.proofs.link_state.put_view.Goals as goal

pub returns : goal.returns
returns c =
    rw (← c.name.ensures, ← c.value.ensures.value, ← c.from.ensures, ← c.value-2.ensures.value, ← c.from-2.ensures)
    (behind c.put_number-3.result c.args.out.now c.put_text.new.out c.put_number-3.new.out _ _ c.in_ok-put_text.ensures
    (behind c.put_number-3.result c.put_text.new.out c.put_number.new.out c.put_number-3.new.out _ _ c.in_ok-put_number.ensures
    (behind c.put_number-3.result c.put_number.new.out c.put_number-2.new.out c.put_number-3.new.out _ _ c.in_ok-put_number-2.ensures
    (c.put_number-3.ensures))))
