use Rattle.network_moves.proofs.Lasting.{ends-last}
use Rattle.network_moves.proofs.laws.ends_stay_sound.Goals as goal

pub returns : goal.returns
returns c = ends-last
