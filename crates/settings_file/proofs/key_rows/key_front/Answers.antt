use Rattle.settings_file.proofs.Basics.{ap}
use Rattle.settings_file.specs.Places.{KeyPlace}
use Rattle.settings_file.proofs.key_rows.key_front.Goals as goal

pub returns : goal.returns
returns c = ap (λ (place : KeyPlace). place.front) c.key_row.ensures
