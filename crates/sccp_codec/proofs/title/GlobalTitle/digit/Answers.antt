use Rattle.std.proofs.Common.{Some, arith, sym, ap, ◌∙◌}
use Rattle.sccp_codec.proofs.TitleTexts.{digit-at, digits-length}
use Rattle.sccp_codec.proofs.title.GlobalTitle.digit.Goals as goal

pub bounds-self-index : goal.bounds-self-index
bounds-self-index c =
    omega (arith, c.if-index-count.false, c.count.ensures, digits-length c.args.self.now.scheme c.args.self.now.digit_octets.now)

pub returns-clause-value : goal.returns-clause-value
returns-clause-value c =
    ap Some c.half.ensures.value
    ∙ sym (digit-at c.args.self.now.scheme c.args.self.now.digit_octets.now c.args.index (omega (arith, c.if-index-count.false, c.count.ensures)))
