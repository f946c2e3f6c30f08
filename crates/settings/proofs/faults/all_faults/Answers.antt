use Rattle.settings.proofs.Basics.{[], all_checks}
use Rattle.settings.proofs.Telling.{told_found}
use Rattle.settings.proofs.faults.all_faults.Goals as goal

pub returns : goal.returns
returns c = rw (c.in_ok-tell_all.ensures, c.new-told.ensures.items) (told_found [] (all_checks c.args.draft.now))
