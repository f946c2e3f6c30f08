use Rattle.settings_file.proofs.Basics.{refl}
use Rattle.settings_file.proofs.Spelled.{none-spelled_host}
use Rattle.settings_file.proofs.serve.paths.spelled_host.Goals as goal

pub returns-in-Err : goal.returns-in-Err
returns-in-Err c = λ s. rw (none-spelled_host s c.args.text.now c.in-Err.ensures.value) refl
