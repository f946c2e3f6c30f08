use Rattle.network_rules.proofs.Links.{lacked}
use Rattle.network_rules.proofs.laws.completions_move_what_the_peer_lacks.Goals as goal

pub returns : goal.returns
returns c = lacked
