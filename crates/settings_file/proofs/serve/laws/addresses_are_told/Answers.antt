use Rattle.settings_file.proofs.Exists.{spelling}
use Rattle.settings_file.proofs.serve.laws.addresses_are_told.Goals as goal

pub returns : goal.returns
returns c = spelling
