use Rattle.std.proofs.Common.{length, ap, ◌∙◌}
use Rattle.sctp_bundling.proofs.Rows.{row-length}
use Rattle.sctp_bundling.specs.Written.{chunks_in}
use Rattle.sctp_bundling.proofs.chunks.Chunks.octets.Goals as goal

pub returns-clause-size : goal.returns-clause-size
returns-clause-size c =
    rw (← c.self.view_is) (ap length c.self.invariant.text ∙ row-length (chunks_in c.self.inside))
