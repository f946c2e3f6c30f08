use Rattle.settings.proofs.Seen.{digits_checked}
use Rattle.settings.proofs.faults.titles.digits_check.Goals as goal

pub returns-clause-value : goal.returns-clause-value
returns-clause-value c =
    rw (c.first.ensures, c.form_check.ensures, c.behind.ensures, c.numbers_check.ensures, c.ensure_check-repeat.ensures, c.as_str.ensures.value)
    (digits_checked c.args.earlier.now c.args.title.now c.in_ok-is_repeat.is_repeat c.in_ok-is_repeat.ensures.value)
