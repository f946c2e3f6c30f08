use Rattle.sctp_receiving.proofs.Kept.{never-dropped}
use Rattle.sctp_receiving.proofs.laws.what_is_held_is_never_dropped.Goals as goal

pub returns : goal.returns
returns c = never-dropped
