use Rattle.std.proofs.Common.{arith}
use Rattle.crc32c.proofs.Linear.{octet_step}
use Rattle.crc32c.proofs.after_octet.Goals as goal

pub returns : goal.returns
returns c = rw (c.after_8.ensures, c.to_le_bytes.ensures) (octet_step c.args.remainder c.args.octet (omega (arith, c.ranges.octet.fits)))
