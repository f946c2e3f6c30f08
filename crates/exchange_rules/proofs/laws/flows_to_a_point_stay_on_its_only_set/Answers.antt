use Rattle.exchange_rules.proofs.LoneRoutes.{flows-stay, set-decides}
use Rattle.exchange_rules.proofs.laws.flows_to_a_point_stay_on_its_only_set.Goals as goal

pub returns-clause-stay : goal.returns-clause-stay
returns-clause-stay c = flows-stay

pub returns-clause-decided : goal.returns-clause-decided
returns-clause-decided c = set-decides
