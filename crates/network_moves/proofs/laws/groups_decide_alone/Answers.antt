use Rattle.network_moves.proofs.Grouped.{groups-decide}
use Rattle.network_moves.proofs.laws.groups_decide_alone.Goals as goal

pub returns : goal.returns
returns c = groups-decide
