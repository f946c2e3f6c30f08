use Rattle.settings.proofs.Basics.{rules, ◌≡◌, None, err_from_is_err_and, range_fault, optional_fault, TitlePoint, TitleBackup}
use Rattle.settings.proofs.Firsts.{past, there}
use Rattle.settings.proofs.titles.routed_row.Goals as goal

pub returns-in_err-by_title-clause-fault : goal.returns-in_err-by_title-clause-fault
returns-in_err-by_title-clause-fault c =
    let p = err_from_is_err_and c.from_residual-in_err-by_title.result c.from_residual-in_err-by_title.ensures.1 in
    let point : range_fault 0 16383 (TitlePoint c.args.place) c.args.title.now.point ≡ None = search rules in
    let backup : optional_fault 0 16383 (TitleBackup c.args.place) c.args.title.now.backup ≡ None = search rules in
    rw (p.1, p.2) (past _ _ _ point (past _ _ _ backup (there _ _ _ (rw c.as_str.ensures.value at c.in_err-by_title.ensures.fault))))
