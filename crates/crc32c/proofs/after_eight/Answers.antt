use Rattle.std.proofs.Common.{arith}
use Rattle.crc32c.proofs.Linear.{eight_octets}
use Rattle.crc32c.proofs.after_eight.Goals as goal

pub returns : goal.returns
returns c =
    eight_octets c.args.remainder c.args.octets.now c.from_le_bytes-word.result c.after_64_of_word.result c.after_32_of_octets.result (omega (arith, c.told-octets))
    (λ i. omega (arith, c.fits-octets i)) c.from_le_bytes-word.ensures c.after_64_of_word.ensures c.after_32_of_octets.ensures
