use Rattle.neighbour_rules.proofs.Staying.{held-in-no-vain}
use Rattle.neighbour_rules.proofs.laws.nothing_is_held_in_vain.Goals as goal

pub returns : goal.returns
returns c = held-in-no-vain
