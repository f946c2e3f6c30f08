use Rattle.pair_moves.proofs.WentBack.{returns-run}
use Rattle.pair_moves.proofs.laws.a_flow_returns_in_order.Goals as goal

pub returns : goal.returns
returns c = returns-run
