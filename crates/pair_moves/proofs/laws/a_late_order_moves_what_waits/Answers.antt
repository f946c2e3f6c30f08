use Rattle.pair_moves.proofs.CrossedLate.{crosses_late}
use Rattle.pair_moves.proofs.laws.a_late_order_moves_what_waits.Goals as goal

pub returns : goal.returns
returns c = crosses_late
