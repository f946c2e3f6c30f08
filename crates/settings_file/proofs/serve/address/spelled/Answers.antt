use Rattle.settings_file.proofs.Basics.{refl}
use Rattle.settings_file.proofs.Spelled.{none-spelled}
use Rattle.settings_file.proofs.serve.address.spelled.Goals as goal

pub returns-in-Err : goal.returns-in-Err
returns-in-Err c = λ s. rw (none-spelled s c.args.text.now c.in-Err.ensures.value) refl
