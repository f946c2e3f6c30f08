use Rattle.std.proofs.Common.{refl, arith}
use Rattle.crc32c.proofs.Linear.{word_step}
use Rattle.crc32c.proofs.after_32_of_octets.Goals as goal

pub returns : goal.returns
returns c =
    rw (c.after_32.ensures, c.after_24.ensures, c.after_16.ensures, c.after_8.ensures)
    (word_step 8 _ c.args.first c.args.second c.args.third c.args.fourth refl (omega (arith, c.ranges.first.fits)) (omega (arith, c.ranges.second.fits)) (omega (arith, c.ranges.third.fits)))
