use Rattle.network_moves.proofs.Grouped.{groups-anew}
use Rattle.network_moves.proofs.laws.groups_begin_anew.Goals as goal

pub returns : goal.returns
returns c = groups-anew
