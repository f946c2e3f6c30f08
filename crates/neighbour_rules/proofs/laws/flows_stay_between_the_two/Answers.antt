use Rattle.neighbour_rules.proofs.Staying.{stay-between}
use Rattle.neighbour_rules.proofs.laws.flows_stay_between_the_two.Goals as goal

pub returns : goal.returns
returns c = stay-between
