use Rattle.settings.proofs.Seen.{none_seen}
use Rattle.settings.proofs.faults.points.SeenPoints.none.Goals as goal

pub returns : goal.returns
returns c = none_seen c.in_ok-seen.seen.items c.in_ok-seen.ensures
