use Rattle.settings_file.proofs.Basics.{inl, inr, err_from_is_err_and}
use Rattle.settings_file.proofs.Parsed.{unread, unparsed}
use Rattle.settings_file.proofs.serve.document.read.Goals as goal

pub returns-in_err-document-clause-fault : goal.returns-in_err-document-clause-fault
returns-in_err-document-clause-fault c = λ s.
    let p = err_from_is_err_and c.from_residual.result c.from_residual.ensures.1 in
    rw p.1 (unread s c.args.text.now _ _ p.2 (unparsed c.args.text.now _ c.in_err-document.ensures.fault))

pub returns-in_err-settings-clause-fault : goal.returns-in_err-settings-clause-fault
returns-in_err-settings-clause-fault c = λ s.
    let p = err_from_is_err_and c.from_residual-in_err-settings.result c.from_residual-in_err-settings.ensures.1 in
    rw p.1 (unread s c.args.text.now _ _ p.2 (c.in_err-settings.ensures.fault c.args.text.now c.in_ok-document.ensures.document))

pub returns-in_err-server-clause-fault : goal.returns-in_err-server-clause-fault
returns-in_err-server-clause-fault c = λ s.
    let p = err_from_is_err_and c.from_residual-in_err-server.result c.from_residual-in_err-server.ensures.1 in
    rw (p.1, p.2) (elim (c.in_err-server.ensures s c.args.text.now c.in_ok-document.ensures.document) [
      | inl memory ↦ inl memory
      | inr first ↦ inr (inr (record {
        configuration = c.in_ok-settings.settings;
        well = c.in_ok-settings.ensures.settings c.args.text.now c.in_ok-document.ensures.document;
        first = first;
      }))
    ])

pub returns-clause-settings : goal.returns-clause-settings
returns-clause-settings c = c.in_ok-settings.ensures.settings c.args.text.now c.in_ok-document.ensures.document

pub returns-clause-server : goal.returns-clause-server
returns-clause-server c = λ s. c.in_ok-server.ensures s c.args.text.now c.in_ok-document.ensures.document
