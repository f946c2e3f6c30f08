use Rattle.exchange_rules.proofs.LastingRoutes.{own-stay}
use Rattle.exchange_rules.proofs.laws.routes_to_adjacent_points_stay_allowed.Goals as goal

pub returns : goal.returns
returns c = own-stay
