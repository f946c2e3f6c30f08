use Rattle.std.proofs.Common.{◌++◌, codes}
use Rattle.served_link.proofs.LineTexts.{two_pieces}
use Rattle.served_link.proofs.line_form.append_plain.Goals as goal

pub returns : goal.returns
returns c =
    let old = c.args.line.now.items in
    let time = c.args.time.now in
    let text = c.args.text.now in
    two_pieces old (time ++ codes " " ++ text) (codes "\n") (two_pieces old (time ++ codes " ") text (two_pieces old time (codes " ") c.append.ensures c.append-2.ensures)
    c.append-3.ensures) c.append-4.ensures
