use Rattle.settings_file.proofs.Basics.{inl, inr, err_from_is_err_and}
use Rattle.settings_file.proofs.Readings.{none-parsed}
use Rattle.settings_file.proofs.document.read.Goals as goal

pub returns-in_err-document-clause-fault : goal.returns-in_err-document-clause-fault
returns-in_err-document-clause-fault c =
    let p = err_from_is_err_and c.from_residual.result c.from_residual.ensures.1 in
    rw (p.1, p.2) (elim c.in_err-document.ensures.fault [ inl memory ↦ inl memory | inr none ↦ inr (inl (none-parsed _ _ none)) ])

pub returns-clause-settings : goal.returns-clause-settings
returns-clause-settings c = c.read_document.ensures.settings c.args.text.now c.in_ok-document.ensures.document

pub returns-clause-fault : goal.returns-clause-fault
returns-clause-fault c = c.read_document.ensures.fault c.args.text.now c.in_ok-document.ensures.document
