use Rattle.settings.proofs.Basics.{sym, ap, ◌∙◌, first_in, all_faults}
use Rattle.settings.proofs.FirstOfAll.{first_same, none_in}
use Rattle.settings.proofs.faults.all_faults_begin.Goals as goal

pub returns-clause-first : goal.returns-clause-first
returns-clause-first c = first_same

pub returns-clause-none : goal.returns-clause-none
returns-clause-none c d = (λ h. sym (first_same d) ∙ ap first_in h, λ h. none_in (all_faults d) (first_same d ∙ h))
