use Rattle.neighbour_rules.proofs.Outcomes.{tells}
use Rattle.neighbour_rules.proofs.laws.deliveries_tell_what_came.Goals as goal

pub returns : goal.returns
returns c = tells
