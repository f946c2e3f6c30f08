use Rattle.node_moves.proofs.OutsideRun.{by-another}
use Rattle.node_moves.proofs.laws.an_order_comes_by_another_link.Goals as goal

pub returns : goal.returns
returns c = by-another
