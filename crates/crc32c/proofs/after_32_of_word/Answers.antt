use Rattle.std.proofs.Common.{ap, arith}
use Rattle.crc32c.specs.Division.{divided_by}
use Rattle.crc32c.proofs.after_32_of_word.Goals as goal

pub returns : goal.returns
returns c = rw (c.after_32_of_octets.ensures, c.to_le_bytes.ensures) (ap (divided_by 32) (omega (arith, c.ranges.word.fits)))
