use Rattle.settings.proofs.Basics.{rules, [], ◌≡◌, None, Some, err_from_is_err_and, TitleTranslation, TitlePlan, TitleNature, range_fault}
use Rattle.settings.proofs.Firsts.{past, there}
use Rattle.settings.proofs.titles.title_numbers.Goals as goal

pub returns-in_err-translation-clause-fault : goal.returns-in_err-translation-clause-fault
returns-in_err-translation-clause-fault c =
    let p = err_from_is_err_and c.from_residual.result c.from_residual.ensures.1 in
    let t : range_fault 0 255 (TitleTranslation c.args.place) c.args.title.now.translation ≡ Some c.in_err-translation.field-0.0 = search rules in
    rw (p.1, p.2) (there _ _ _ t)

pub returns-in_err-plan-clause-fault : goal.returns-in_err-plan-clause-fault
returns-in_err-plan-clause-fault c =
    let p = err_from_is_err_and c.from_residual-in_err-plan.result c.from_residual-in_err-plan.ensures.1 in
    let t : range_fault 0 255 (TitleTranslation c.args.place) c.args.title.now.translation ≡ None = search rules in
    let n : range_fault 0 15 (TitlePlan c.args.place) c.args.title.now.plan ≡ Some c.in_err-plan.field-0.0 = search rules in
    rw (p.1, p.2) (past _ _ _ t (there _ _ _ n))

pub returns-in_err-nature-clause-fault : goal.returns-in_err-nature-clause-fault
returns-in_err-nature-clause-fault c =
    let p = err_from_is_err_and c.from_residual-in_err-nature.result c.from_residual-in_err-nature.ensures.1 in
    let t : range_fault 0 255 (TitleTranslation c.args.place) c.args.title.now.translation ≡ None = search rules in
    let n : range_fault 0 15 (TitlePlan c.args.place) c.args.title.now.plan ≡ None = search rules in
    let a : range_fault 0 127 (TitleNature c.args.place) c.args.title.now.nature ≡ Some c.in_err-nature.field-0.0 = search rules in
    rw (p.1, p.2) (past _ _ _ t (past _ _ _ n (there _ [] _ a)))
