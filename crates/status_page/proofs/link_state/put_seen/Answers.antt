-- The pieces come one after the other.
use Rattle.status_page.proofs.Adding.{behind}
use Rattle.status_page.proofs.link_state.put_seen.Goals as goal

pub returns : goal.returns
returns c =
    rw (← c.words.ensures.words)
    (behind c.put_number-2.result c.args.out.now c.put_text.new.out c.put_number-2.new.out _ _ c.in_ok-put_text.ensures
    (behind c.put_number-2.result c.put_text.new.out c.put_number.new.out c.put_number-2.new.out _ _ c.in_ok-put_number.ensures
    (c.put_number-2.ensures)))
