use Rattle.network_moves.proofs.Grouped.{nothing-leaves}
use Rattle.network_moves.proofs.laws.nothing_leaves_the_group.Goals as goal

pub returns : goal.returns
returns c = nothing-leaves
