-- What is left leads from here to the date that all days lead to.
use Rattle.std.proofs.Common.{◌≡◌, ◌≤◌, ℕ, ◌-◌}
use Rattle.served_link.specs.Utc.{date_from, date_in_year}
use Rattle.served_link.proofs.utc.date_in_year.Given as goal

pub record Walk (year days month left : ℕ) : Type 0 where
  pub some_left : left ≤ days
  pub same : date_from (12 - month) year month left ≡ date_in_year year days

abbrev pub invariant-loop-month : goal.invariant-loop-month
invariant-loop-month l = Walk l.year l.days l.month l.left
