use Rattle.settings_file.proofs.Beginning.{first-of-all}
use Rattle.settings_file.proofs.faults.all_faults_begin.Goals as goal

pub returns : goal.returns
returns c = first-of-all
