use Rattle.changeback.proofs.Places.{not_awaited}
use Rattle.changeback.proofs.laws.awaited_codes_are_kept.Goals as goal

pub returns : goal.returns
returns c = not_awaited
