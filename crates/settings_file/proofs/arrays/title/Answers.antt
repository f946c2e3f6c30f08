use Rattle.settings_file.proofs.Basics.{SFits, w64, refl, rules, to_z-of_z, title_in}
use Rattle.settings_file.proofs.arrays.title.Goals as goal

pub returns : goal.returns
unfolding title_in
returns c =
    let translation : SFits w64 c.in_ok-translation.translation = search rules in
    let plan : SFits w64 c.in_ok-plan.plan = search rules in
    let nature : SFits w64 c.in_ok-nature.nature = search rules in
    let point : SFits w64 c.in_ok-point.point = search rules in
    rw (to_z-of_z _ _ translation, to_z-of_z _ _ plan, to_z-of_z _ _ nature, to_z-of_z _ _ point, c.in_ok-table.ensures, ← c.in_ok-translation.ensures, ← c.in_ok-plan.ensures, ← c.in_ok-nature.ensures, c.in_ok-digits.ensures, ← c.in_ok-point.ensures, ← c.in_ok-backup.ensures, c.in_ok-route.ensures, ← c.as_str.ensures.value, ← c.in_ok-ssn.ensures, c.in_ok-change.ensures) refl
