use Rattle.neighbour_rules.proofs.Awaited.{nothing-in-vain}
use Rattle.neighbour_rules.proofs.laws.nothing_is_awaited_in_vain.Goals as goal

pub returns : goal.returns
returns c = nothing-in-vain
