use Rattle.exchange_rules.proofs.ToldRoutes.{are-told, told-as-such}
use Rattle.exchange_rules.proofs.laws.peers.adjacent_points_are_told_of_routes.Goals as goal

pub returns-clause-read : goal.returns-clause-read
returns-clause-read c = told-as-such

pub returns-clause-unrouted : goal.returns-clause-unrouted
returns-clause-unrouted c = are-told
