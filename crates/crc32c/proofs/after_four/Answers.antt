use Rattle.std.proofs.Common.{arith}
use Rattle.crc32c.proofs.Linear.{four_octets}
use Rattle.crc32c.proofs.after_four.Goals as goal

pub returns : goal.returns
returns c =
    four_octets c.args.remainder c.args.octets.now c.from_le_bytes.result c.after_32_of_word.result (omega (arith, c.told-octets)) (λ i. omega (arith, c.fits-octets i))
    c.from_le_bytes.ensures c.after_32_of_word.ensures
