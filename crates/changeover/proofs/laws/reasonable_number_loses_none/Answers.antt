use Rattle.changeover.proofs.Completing.{none}
use Rattle.changeover.proofs.laws.reasonable_number_loses_none.Goals as goal

pub returns : goal.returns
returns c = none
