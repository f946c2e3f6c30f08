use Rattle.std.proofs.Common.{arith, refl}
use Rattle.sccp_codec.proofs.DigitTexts.{first-digits, even-digits, odd-digits}
use Rattle.sccp_codec.proofs.title.GlobalTitle.digits.Goals as goal

pub returns-then-octets-gt-DIGIT_OCTETS : goal.returns-then-octets-gt-DIGIT_OCTETS
returns-then-octets-gt-DIGIT_OCTETS c = rw c.both_halves.ensures (first-digits c.args.self.now.scheme c.args.self.now.digit_octets.now (omega arith))

pub returns-in-Odd : goal.returns-in-Odd
returns-in-Odd c =
    rw (c.in-Odd.is, c.pop.ensures.rest, c.both_halves-digits.ensures) (odd-digits c.args.self.now.digit_octets.now _ (omega arith) refl)

pub returns-in-Even : goal.returns-in-Even
returns-in-Even c = rw (c.in-Even.is, c.both_halves-digits.ensures) (even-digits c.args.self.now.digit_octets.now (omega arith))
