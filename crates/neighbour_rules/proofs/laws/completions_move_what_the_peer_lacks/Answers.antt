use Rattle.neighbour_rules.proofs.FourLaws.{moves-lacked}
use Rattle.neighbour_rules.proofs.laws.completions_move_what_the_peer_lacks.Goals as goal

pub returns : goal.returns
returns c = moves-lacked
