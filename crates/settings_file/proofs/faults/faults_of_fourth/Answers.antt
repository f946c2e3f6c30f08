use Rattle.settings_file.proofs.Basics.{◌∙◌, IfOk-weaker}
use Rattle.settings_file.proofs.Beginning.{told-same}
use Rattle.settings_file.proofs.faults.faults_of_fourth.Goals as goal

pub returns : goal.returns
returns c =
    IfOk-weaker c.told_faults.result _ _
    (λ faults told. record {
      draft = c.in_ok-draft.draft;
      says = c.in_ok-draft.ensures;
      found = λ s. told ∙ told-same c.args.first _ _ _ _ _ _ (c.deref.ensures.value ∙ c.in_ok-reading.ensures) (c.deref-2.ensures.value ∙ c.in_ok-checked.ensures) (c.deref-3.ensures.value ∙ c.in_ok-server.ensures s);
    })
    c.told_faults.ensures
