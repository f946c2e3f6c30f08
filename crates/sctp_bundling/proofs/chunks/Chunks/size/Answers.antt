use Rattle.std.proofs.Common.{arith}
use Rattle.sctp_bundling.proofs.Rows.{are_long}
use Rattle.sctp_bundling.specs.Written.{chunks_in}
use Rattle.sctp_bundling.proofs.chunks.Chunks.size.Goals as goal

pub returns-clause-size : goal.returns-clause-size
returns-clause-size c =
    rw (← c.self.view_is) (are_long c.self.inside.octets c.self.inside.end (chunks_in c.self.inside) (omega (arith, c.self.told, c.self.invariant.fits)) c.self.invariant.text)
