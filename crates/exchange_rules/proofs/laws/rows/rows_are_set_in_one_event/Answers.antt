use Rattle.exchange_rules.proofs.SetRows.{others-added, removes-and-adds, replaced, rows-lead}
use Rattle.exchange_rules.proofs.laws.rows.rows_are_set_in_one_event.Goals as goal

pub returns-clause-leads : goal.returns-clause-leads
returns-clause-leads c = rows-lead

pub returns-clause-replaced : goal.returns-clause-replaced
returns-clause-replaced c = replaced

pub returns-clause-added : goal.returns-clause-added
returns-clause-added c = others-added

pub returns-clause-both : goal.returns-clause-both
returns-clause-both c = removes-and-adds
