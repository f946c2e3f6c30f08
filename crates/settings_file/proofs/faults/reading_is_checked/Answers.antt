use Rattle.settings_file.proofs.CheckedReading.{reading-checked}
use Rattle.settings_file.proofs.faults.reading_is_checked.Goals as goal

pub returns : goal.returns
returns c = reading-checked
