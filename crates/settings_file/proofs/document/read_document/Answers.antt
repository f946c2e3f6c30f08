use Rattle.settings_file.proofs.Basics.{SFits, w64, ◌∙◌, inl, inr, refl, ap, rules, to_z-of_z, err_from_is_err_and, Draft}
use Rattle.settings_file.proofs.Readings.{reading-parsed}
use Rattle.settings_file.proofs.document.read_document.Goals as goal

pub returns-in_err-version-clause-fault : goal.returns-in_err-version-clause-fault
returns-in_err-version-clause-fault c = λ text parsed.
    let p = err_from_is_err_and c.from_residual.result c.from_residual.ensures.1 in
    rw (p.1, p.2) (elim c.in_err-version.ensures [ inl memory ↦ inl memory | inr read ↦ inr (inl (reading-parsed text _ parsed ∙ read)) ])

pub returns-in-Ok-clause-settings : goal.returns-in-Ok-clause-settings
returns-in-Ok-clause-settings c = λ text parsed.
    let fits : SFits w64 c.in_ok-version.field-0.version = search rules in
    record {
      version = c.in_ok-version.field-0.version;
      draft = c.in_ok-version.field-0.draft;
      read = reading-parsed text _ parsed ∙ c.in_ok-version.ensures;
      well = rw (to_z-of_z _ _ fits) at c.in-Ok.ensures.well;
      meant = c.in-Ok.ensures.settings;
    }

pub returns-in-Err-clause-fault : goal.returns-in-Err-clause-fault
returns-in-Err-clause-fault c = λ text parsed.
    let fits : SFits w64 c.in_ok-version.field-0.version = search rules in
    elim c.in-Err.ensures.fault [
      | inl memory ↦ inl (ap Draft memory)
      | inr first ↦ inr (inr (record {
        version = c.in_ok-version.field-0.version;
        draft = c.in_ok-version.field-0.draft;
        found = c.in-Err.fault;
        read = reading-parsed text _ parsed ∙ c.in_ok-version.ensures;
        first = rw (to_z-of_z _ _ fits) at first;
        named = refl;
      }))
    ]
