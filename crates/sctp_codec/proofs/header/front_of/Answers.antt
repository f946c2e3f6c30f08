use Rattle.std.proofs.Common.{arith}
use Rattle.std.proofs.lemmas.Nat.{le_bytes_8}
use Rattle.sctp_codec.proofs.header.front_of.Goals as goal

pub returns : goal.returns
returns c = le_bytes_8 c.args.octets.now c.from_le_bytes.result (omega (arith, c.told-octets)) (λ i. omega (arith, c.fits-octets i)) c.from_le_bytes.ensures
