use Rattle.std.proofs.Common.{sym}
use Rattle.sccp_codec.proofs.DigitTexts.{length-halves}
use Rattle.sccp_codec.proofs.TitleTexts.{odd-length}
use Rattle.sccp_codec.proofs.title.GlobalTitle.count.Goals as goal

pub returns-in-Odd : goal.returns-in-Odd
returns-in-Odd c = rw (c.in-Odd.is, c.saturating_sub.ensures) (sym (odd-length c.args.self.now.digit_octets.now))

pub returns-in-Even : goal.returns-in-Even
returns-in-Even c = rw c.in-Even.is (sym (length-halves c.args.self.now.digit_octets.now))
