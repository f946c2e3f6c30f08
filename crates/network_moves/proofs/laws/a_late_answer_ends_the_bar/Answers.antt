use Rattle.network_moves.proofs.Crossed.{ends-the-bar}
use Rattle.network_moves.proofs.laws.a_late_answer_ends_the_bar.Goals as goal

pub returns : goal.returns
returns c = ends-the-bar
