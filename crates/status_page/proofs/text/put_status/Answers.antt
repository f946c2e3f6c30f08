-- The pieces come one after the other.
use Rattle.std.proofs.Common.{refl}
use Rattle.status_page.specs.Contents.{status_text}
use Rattle.status_page.proofs.Adding.{text_behind, text_both}
use Rattle.status_page.proofs.text.put_status.Goals as goal

pub returns : goal.returns
unfolding status_text
returns c =
    text_behind c.put_piece-5.result c.args.body.now.items c.put_piece-4.new.body.items c.put_piece-5.new.body.items _ _ _
    (text_both c.args.body.now.items c.put_piece-3.new.body.items c.put_piece-4.new.body.items _ _
    (text_both c.args.body.now.items c.put_piece-2.new.body.items c.put_piece-3.new.body.items _ _
    (text_both c.args.body.now.items c.put_piece.new.body.items c.put_piece-2.new.body.items _ _
    c.in_ok-put_piece.ensures c.in_ok-put_piece-2.ensures) c.in_ok-put_piece-3.ensures) c.in_ok-put_piece-4.ensures)
    c.put_piece-5.ensures refl
