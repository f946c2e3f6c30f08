use Rattle.std.proofs.Common.{◌∙◌, ◌++◌, ℕ, List, ap, sym, get_or, take}
use Rattle.served_link.specs.LineForms.{cut, escaped, escaped_octet}
use Rattle.served_link.proofs.LineTexts.{escaped_more, two_pieces, uncut}
use Rattle.served_link.proofs.line_form.append_escaped.Goals as goal

pub loop-octet-init : goal.loop-octet-init
loop-octet-init c = uncut c.args.line.now.items (rw (← c.len-before.ensures.value) c.len-before.ensures.fits)

pub loop-octet-preserved : goal.loop-octet-preserved
loop-octet-preserved c =
    let old = c.args.line.now.items in
    let text = c.args.text.now in
    let i = c.loop-octet.octet-index in
    two_pieces old (escaped (take i text)) (escaped_octet (get_or text i 0)) c.loop-octet.invariant c.append_octet.ensures
    ∙ ap (λ (t : List ℕ). cut (old ++ t)) (sym (escaped_more text i c.loop-octet-test.true))
